-- The parse of any words answers what they ask for.
use Rattle.std.proofs.Common.{◌≡◌, ℕ, Bool, true, false, refl, sym, subst, List, [], ◌∷◌, Option, Some, None, codes}
use Rattle.std.specs.List.{find}
use Rattle.std.specs.Str.{bytes_eq}
use Rattle.std.proofs.lemmas.Slice.Eq.{bytes_eq-Decides}
use Rattle.clap.specs.Kinds.{Kinds}
use Rattle.clap.specs.Faults.{fault_of, is_simple_and_free, level_fault}
use Rattle.clap.specs.Simple.{Shape, built, is_simple, label_of, rows_at, subcommand_of}
use Rattle.clap.specs.Walk.{Row, answers_to, idle, nothing_held, subcommand_met}
use Rattle.command_words.specs.Numbers.{Text}
use Rattle.command_words.specs.Commands.{RunBounds, Command, Check, Fmt, Rules}
use Rattle.command_words.specs.Commands.{Compile, Exec, Run, Upgrade, Bound, Shrink}
use Rattle.command_words.specs.Commands.{Selftest}
use Rattle.command_words.specs.Reading.{nothing, read_words}
use Rattle.command_words.specs.Words.{command_of_texts, file_command, run_command, net_command, number_command}
use Rattle.command_words.specs.Parser.{program_app}
use Rattle.command_words.specs.Asked.{command_found, file_found, run_found, net_found, number_found}
use Rattle.command_words.proofs.WordForms.{AreUtf8}
use Rattle.command_words.proofs.LeafRules.{Leaf, shape_of_leaf}
use Rattle.command_words.proofs.Leaves.{file_leaf, run_leaf, number_leaf}
use Rattle.command_words.proofs.LeafAnswers.{Answers, level_agrees, file_answers, run_answers, net_answers}
use Rattle.command_words.proofs.LeafAnswers.{number_answers}
use Rattle.command_words.proofs.ProgramWalk as walk

-- all that clap promises of its faults holds for the program
pub is_free : is_simple_and_free program_app ≡ true
is_free = refl

-- all that clap promises of what it matches holds for the program
pub is_plain : is_simple program_app ≡ true
is_plain = refl

-- the commands as they are built
abbrev subs : List Shape
subs = (built program_app).subs

-- the parse enters the command that the first word names
enters : (n : Text) (S : Shape) (rest : List Text) → subcommand_met (walk.names (codes "flowc") subs) idle n ≡ Some n
    → find (λ s. answers_to n (label_of s)) subs ≡ Some S
    → (fault_of program_app (n ∷ rest) ≡ level_fault S [] nothing_held rest false [])
    × (subcommand_of program_app (n ∷ rest) ≡ Some (rows_at S rest))
enters n S rest met found = walk.enters (codes "flowc") subs n S rest met found

-- the parse of these words answers what they ask for
abbrev pub Agreed : List Text → Type 0
Agreed words = Answers (command_of_texts words) (fault_of program_app words)
    (command_found (subcommand_of program_app words))

-- the faults of a command's level
abbrev faults : Leaf → List Text → Kinds
faults L rest = level_fault (shape_of_leaf L) [] nothing_held rest false []

-- the name and the rows of a command's level
abbrev found : Leaf → List Text → Text × List Row
found L rest = rows_at (shape_of_leaf L) rest

-- what a command's level answers is what the parse answers
agreed_at : (n : Text) (L : Leaf) (rest : List Text)
    → (fault_of program_app (n ∷ rest) ≡ faults L rest) × (subcommand_of program_app (n ∷ rest) ≡ Some (found L rest))
    → Answers (command_of_texts (n ∷ rest)) (faults L rest) (command_found (Some (found L rest))) → Agreed (n ∷ rest)
agreed_at n L rest e a =
    subst
    (λ (k : Kinds). Answers (command_of_texts (n ∷ rest)) k (command_found (subcommand_of program_app (n ∷ rest))))
    (sym e.0)
    (subst
    (λ (o : Option (Text × List Row)). Answers (command_of_texts (n ∷ rest)) (faults L rest) (command_found o))
    (sym e.1) a)

-- ---- the kinds of commands

-- a command of one file
file_agreed : (n : Text) (command : Text → Command) (rest : List Text) → AreUtf8 rest
    → Answers (file_command command rest) (faults (file_leaf n) rest) (file_found command (found (file_leaf n) rest).1)
file_agreed n command rest u =
    file_answers command (read_words false None rest nothing) (faults (file_leaf n) rest) (found (file_leaf n) rest).1
    (level_agrees (file_leaf n) rest u)

-- a run
run_agreed : (n : Text) (command : Text → Text → RunBounds → Command) (rest : List Text) → AreUtf8 rest
    → Answers (run_command command rest) (faults (run_leaf n) rest) (run_found command (found (run_leaf n) rest).1)
run_agreed n command rest u =
    run_answers command (read_words true None rest nothing) (faults (run_leaf n) rest) (found (run_leaf n) rest).1
    (level_agrees (run_leaf n) rest u)

-- a net
net_level_agreed : (n : Text) (rest : List Text) → AreUtf8 rest
    → Answers (net_command rest) (faults (run_leaf n) rest) (net_found (found (run_leaf n) rest).1)
net_level_agreed n rest u =
    net_answers (read_words true None rest nothing) (faults (run_leaf n) rest) (found (run_leaf n) rest).1
    (level_agrees (run_leaf n) rest u)

-- a command of one number
number_agreed : (n : Text) (command : ℕ → Command) (rest : List Text) → AreUtf8 rest
    → Answers (number_command command rest) (faults (number_leaf n) rest)
    (number_found command (found (number_leaf n) rest).1)
number_agreed n command rest u =
    number_answers command (read_words false None rest nothing) (faults (number_leaf n) rest)
    (found (number_leaf n) rest).1
    (level_agrees (number_leaf n) rest u)

-- ---- the commands

-- `check`
check_agreed : (rest : List Text) → AreUtf8 rest → Agreed (codes "check" ∷ rest)
check_agreed rest u =
    agreed_at (codes "check") (file_leaf (codes "check")) rest
    (enters (codes "check") (shape_of_leaf (file_leaf (codes "check"))) rest refl refl)
    (file_agreed (codes "check") Check rest u)

-- `fmt`
fmt_agreed : (rest : List Text) → AreUtf8 rest → Agreed (codes "fmt" ∷ rest)
fmt_agreed rest u =
    agreed_at (codes "fmt") (file_leaf (codes "fmt")) rest
    (enters (codes "fmt") (shape_of_leaf (file_leaf (codes "fmt"))) rest refl refl)
    (file_agreed (codes "fmt") Fmt rest u)

-- `rules`
rules_agreed : (rest : List Text) → AreUtf8 rest → Agreed (codes "rules" ∷ rest)
rules_agreed rest u =
    agreed_at (codes "rules") (run_leaf (codes "rules")) rest
    (enters (codes "rules") (shape_of_leaf (run_leaf (codes "rules"))) rest refl refl)
    (run_agreed (codes "rules") Rules rest u)

-- `compile`
compile_agreed : (rest : List Text) → AreUtf8 rest → Agreed (codes "compile" ∷ rest)
compile_agreed rest u =
    agreed_at (codes "compile") (file_leaf (codes "compile")) rest
    (enters (codes "compile") (shape_of_leaf (file_leaf (codes "compile"))) rest refl refl)
    (file_agreed (codes "compile") Compile rest u)

-- `exec`
exec_agreed : (rest : List Text) → AreUtf8 rest → Agreed (codes "exec" ∷ rest)
exec_agreed rest u =
    agreed_at (codes "exec") (run_leaf (codes "exec")) rest
    (enters (codes "exec") (shape_of_leaf (run_leaf (codes "exec"))) rest refl refl)
    (run_agreed (codes "exec") Exec rest u)

-- `run`
run_command_agreed : (rest : List Text) → AreUtf8 rest → Agreed (codes "run" ∷ rest)
run_command_agreed rest u =
    agreed_at (codes "run") (run_leaf (codes "run")) rest
    (enters (codes "run") (shape_of_leaf (run_leaf (codes "run"))) rest refl refl) (run_agreed (codes "run") Run rest u)

-- `upgrade`
upgrade_agreed : (rest : List Text) → AreUtf8 rest → Agreed (codes "upgrade" ∷ rest)
upgrade_agreed rest u =
    agreed_at (codes "upgrade") (file_leaf (codes "upgrade")) rest
    (enters (codes "upgrade") (shape_of_leaf (file_leaf (codes "upgrade"))) rest refl refl)
    (file_agreed (codes "upgrade") Upgrade rest u)

-- `bounds`
bounds_agreed : (rest : List Text) → AreUtf8 rest → Agreed (codes "bounds" ∷ rest)
bounds_agreed rest u =
    agreed_at (codes "bounds") (file_leaf (codes "bounds")) rest
    (enters (codes "bounds") (shape_of_leaf (file_leaf (codes "bounds"))) rest refl refl)
    (file_agreed (codes "bounds") Bound rest u)

-- `shrink`
shrink_agreed : (rest : List Text) → AreUtf8 rest → Agreed (codes "shrink" ∷ rest)
shrink_agreed rest u =
    agreed_at (codes "shrink") (file_leaf (codes "shrink")) rest
    (enters (codes "shrink") (shape_of_leaf (file_leaf (codes "shrink"))) rest refl refl)
    (file_agreed (codes "shrink") Shrink rest u)

-- `net`
net_agreed : (rest : List Text) → AreUtf8 rest → Agreed (codes "net" ∷ rest)
net_agreed rest u =
    agreed_at (codes "net") (run_leaf (codes "net")) rest
    (enters (codes "net") (shape_of_leaf (run_leaf (codes "net"))) rest refl refl)
    (net_level_agreed (codes "net") rest u)

-- `selftest`
selftest_agreed : (rest : List Text) → AreUtf8 rest → Agreed (codes "selftest" ∷ rest)
selftest_agreed rest u =
    agreed_at (codes "selftest") (number_leaf (codes "selftest")) rest
    (enters (codes "selftest") (shape_of_leaf (number_leaf (codes "selftest"))) rest refl refl)
    (number_agreed (codes "selftest") Selftest rest u)

-- ---- any words

-- for all words
pub agreed : (words : List Text) → AreUtf8 words → Agreed words
agreed [] u = λ e. absurd (walk.no_words_fail (codes "flowc") subs e)
agreed (name ∷ rest) u =
    check (bytes_eq (codes "check") name) refl
  where
    none : bytes_eq (codes "check") name ≡ false → bytes_eq (codes "fmt") name ≡ false
        → bytes_eq (codes "rules") name ≡ false → bytes_eq (codes "compile") name ≡ false
        → bytes_eq (codes "exec") name ≡ false → bytes_eq (codes "run") name ≡ false
        → bytes_eq (codes "upgrade") name ≡ false → bytes_eq (codes "bounds") name ≡ false
        → bytes_eq (codes "shrink") name ≡ false → bytes_eq (codes "net") name ≡ false
        → bytes_eq (codes "selftest") name ≡ false → Agreed (name ∷ rest)
    none a b c d e f g h i j k =
        let undefined : command_of_texts (name ∷ rest) ≡ None = rw (a, b, c, d, e, f, g, h, i, j, k) refl in
        let unmet : subcommand_met (walk.names (codes "flowc") subs) idle name ≡ None = rw (a, b, c, d, e, f, g, h, i, j, k) refl in
        subst
        (λ (o : Option Command). Answers o (fault_of program_app (name ∷ rest))
        (command_found (subcommand_of program_app (name ∷ rest))))
        (sym undefined) (λ z. absurd (walk.unknown_fails (codes "flowc") subs name rest u unmet z))

    named : (n : Text) → bytes_eq n name ≡ true → Agreed (n ∷ rest) → Agreed (name ∷ rest)
    named n e a = subst (λ (x : Text). Agreed (x ∷ rest)) ((bytes_eq-Decides n name).0 e) a

    check : (t : Bool) → bytes_eq (codes "check") name ≡ t → Agreed (name ∷ rest)
    check true a = named (codes "check") a (check_agreed rest u.1)
    check false a = fmt (bytes_eq (codes "fmt") name) refl
      where
        fmt : (t : Bool) → bytes_eq (codes "fmt") name ≡ t → Agreed (name ∷ rest)
        fmt true b = named (codes "fmt") b (fmt_agreed rest u.1)
        fmt false b = rules (bytes_eq (codes "rules") name) refl
          where
            rules : (t : Bool) → bytes_eq (codes "rules") name ≡ t → Agreed (name ∷ rest)
            rules true c = named (codes "rules") c (rules_agreed rest u.1)
            rules false c = compile (bytes_eq (codes "compile") name) refl
              where
                compile : (t : Bool) → bytes_eq (codes "compile") name ≡ t → Agreed (name ∷ rest)
                compile true d = named (codes "compile") d (compile_agreed rest u.1)
                compile false d = exec (bytes_eq (codes "exec") name) refl
                  where
                    exec : (t : Bool) → bytes_eq (codes "exec") name ≡ t → Agreed (name ∷ rest)
                    exec true e = named (codes "exec") e (exec_agreed rest u.1)
                    exec false e = run (bytes_eq (codes "run") name) refl
                      where
                        run : (t : Bool) → bytes_eq (codes "run") name ≡ t → Agreed (name ∷ rest)
                        run true f = named (codes "run") f (run_command_agreed rest u.1)
                        run false f = upgrade (bytes_eq (codes "upgrade") name) refl
                          where
                            upgrade : (t : Bool) → bytes_eq (codes "upgrade") name ≡ t → Agreed (name ∷ rest)
                            upgrade true g = named (codes "upgrade") g (upgrade_agreed rest u.1)
                            upgrade false g = bounds (bytes_eq (codes "bounds") name) refl
                              where
                                bounds : (t : Bool) → bytes_eq (codes "bounds") name ≡ t → Agreed (name ∷ rest)
                                bounds true h = named (codes "bounds") h (bounds_agreed rest u.1)
                                bounds false h = shrink (bytes_eq (codes "shrink") name) refl
                                  where
                                    shrink : (t : Bool) → bytes_eq (codes "shrink") name ≡ t → Agreed (name ∷ rest)
                                    shrink true i = named (codes "shrink") i (shrink_agreed rest u.1)
                                    shrink false i = net (bytes_eq (codes "net") name) refl
                                      where
                                        net : (t : Bool) → bytes_eq (codes "net") name ≡ t → Agreed (name ∷ rest)
                                        net true j = named (codes "net") j (net_agreed rest u.1)
                                        net false j = selftest (bytes_eq (codes "selftest") name) refl
                                          where
                                            selftest : (t : Bool) → bytes_eq (codes "selftest") name ≡ t
                                                → Agreed (name ∷ rest)
                                            selftest true k = named (codes "selftest") k (selftest_agreed rest u.1)
                                            selftest false k = none a b c d e f g h i j k
