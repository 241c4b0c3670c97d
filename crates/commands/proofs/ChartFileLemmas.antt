-- Chart files of which nothing comes.
use Rattle.std.proofs.Common.{◌≡◌, ℕ, ◌<◌, List, length}
use Rattle.std.specs.Prelude.{Vec}
use Rattle.std.specs.declared.alloc.Global.{Global}
use Rattle.chart_lexer.specs.Lex.{begin}
use Rattle.chart_tree.specs.declared.fault.FormFault.{FormFault}
use Rattle.chart_tree.specs.declared.fault.FormFault.TheVariants as faults
use Rattle.chart_tree.specs.declared.fault.FormKind.TheVariants as forms
use Rattle.chart_tree.specs.declared.limits.TheConstants.{CHART_TEXT_LIMIT}
use Rattle.commands.specs.declared.file.FileEnd.{FileEnd}
use Rattle.commands.specs.Call.{Sources}
use Rattle.commands.specs.Reading.{RefusesLong, Gives, IsTextOf, Unread}
use Rattle.commands.proofs.ReadingLemmas.{refused_so, refused_of, ran_out}
use Rattle.commands.specs.declared.refusal.Refusal.{Refusal}
use Rattle.commands.specs.Refusals.{RefusesBy, end_of_fault}

-- the refusal of a text that is too long
abbrev pub too_long : Refusal
too_long = record { kind = forms.TextTooLong; at = begin }

module _ (IsFault : List ℕ → FormFault → Type 0) (before after : Sources) (name : List ℕ) where
  -- nothing comes of a file that isn't read, where a text that is too long has that fault
  pub unread_as : (end : FileEnd Refusal)
      → ((text : List ℕ) → CHART_TEXT_LIMIT < length text → IsFault text (faults.At forms.TextTooLong begin))
      → Unread CHART_TEXT_LIMIT (RefusesLong CHART_TEXT_LIMIT too_long) before after name end
      → Unread CHART_TEXT_LIMIT (RefusesBy IsFault) before after name end
  unread_as end long u =
      refused_so CHART_TEXT_LIMIT _ (RefusesBy IsFault) before after name end (λ text why r. rw r.why_is (long text r.long)) u

  -- where the bytes have a fault, nothing comes of the file
  pub refused_as : (bytes : Vec ℕ Global) → Gives (IsTextOf CHART_TEXT_LIMIT) before after name bytes
      → (fault : FormFault) (text : List ℕ) → text ≡ bytes.items → IsFault text fault
      → Unread CHART_TEXT_LIMIT (RefusesBy IsFault) before after name (end_of_fault fault)
  refused_as bytes given (faults.At kind at) text e h =
      refused_of CHART_TEXT_LIMIT before after name bytes given (RefusesBy IsFault) (record { kind = kind; at = at }) text e h
  refused_as bytes given faults.Memory text e h = ran_out CHART_TEXT_LIMIT before after name bytes given (RefusesBy IsFault)
