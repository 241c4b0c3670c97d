-- ---- expressions and assignments

pub mod TranslationRoom
pub mod TranslationOperators
pub mod TranslationNumbers
pub mod TranslationValues
pub mod CodePieces
pub mod TranslationQuotients
pub mod TranslationDecisions
pub mod TranslationEnds
pub mod StoringScales
pub mod StoringFields
pub mod StoringWraps
pub mod StoringSignedWraps
pub mod StoringKept
pub mod StoringAssignments
pub mod CodeStatements
pub mod AssigningLemmas
-- ---- plans

pub mod StatesTests
pub mod StatesChanges
pub mod StatesMarks
pub mod WrittenTests
pub mod RunsStatements
pub mod RunsPlaces
pub mod RunsSimulation
pub mod WriterLemmas
pub mod RunsEnds
pub mod RunsBegun
pub mod RunsArithmetic
pub mod RunsStays
pub mod RunsLasting
-- ---- functions of a file

pub mod LayoutTests
pub mod LayoutChanges
pub mod LayoutPlaces
pub mod NotesLemmas
pub mod FailingLemmas
pub mod PlansWords
pub mod FilesShown
pub mod PlansEnds
pub mod PlansOutputs
pub mod PlansTests
pub mod PlansBranches
pub mod FilesNoted
pub mod PlansCalls
pub mod PlansAssignments
pub mod PlansSimulation
pub mod FilesFunctions
pub mod FilesCode
pub mod StartsStores
pub mod FilesShape
pub mod StartsRefusals
pub mod InputsGiven
pub mod StartsRuns
