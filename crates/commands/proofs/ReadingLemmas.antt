-- Files that are read, and what is left of them.
use Rattle.std.proofs.Common.{◌≡◌, ℕ, ◌+◌, ◌<◌, ◌≤◌, List, [], ◌∷◌, ◌++◌, Option, Some, None, Result, Ok, Err}
use Rattle.std.proofs.Common.{length, replicate, refl, sym, ap, subst, ◌∙◌, append-nil, arith}
use Rattle.std.specs.Prelude.{IfSome, Vec}
use Rattle.std.specs.declared.alloc.Global.{Global}
use Rattle.std.proofs.lemmas.List.{length-replicate}
use Rattle.std.specs.Io.KnownBytes.{prepend_known, IsAtEnd}
use Rattle.flow_base.specs.Causes.{OthersKept}
use Rattle.commands.specs.declared.file.FileEnd.{FileEnd}
use Rattle.commands.specs.declared.file.FileEnd.TheVariants as ends
use Rattle.commands.specs.Call.{Sources, OthersStay}
use Rattle.commands.specs.Reading.{IsTold, read_out, ReadWhole, Whole, TooLong, Unread, Gives, FileGives, IsTextOf}

-- a text of that file that passes the limit
pub record LongText (told : Option (List ℕ)) (limit : ℕ) : Type 0 where
  pub text : List ℕ
  pub is_told : IsTold told text
  pub long : limit < length text

-- where what is told passes the limit, there is such a text
pub long_text : (told : Option (List ℕ)) (limit : ℕ) → IfSome told (λ t. limit < length t) → LongText told limit
long_text None limit h = record { text = replicate (limit + 1) 0; is_told = tt; long = omega (arith, length-replicate {A = ℕ} (limit + 1) 0) }
long_text (Some told) limit h = record { text = told; is_told = refl; long = h }

-- a text that was read to the end of the file is the one that is told
pub told_whole : (told after : Option (List ℕ)) (text : List ℕ) → told ≡ prepend_known text after → IsAtEnd after
    → IsTold told text
told_whole None after text whole end = tt
told_whole (Some t) None text whole end = absurd (let k = whole in cc)
told_whole (Some t) (Some rest) text whole end =
    let same : t ≡ text ++ rest = let k = whole in cc in sym (same ∙ ap (λ (r : List ℕ). text ++ r) end ∙ append-nil text)

-- nothing is left of a file that was read to its end
pub read_out-IsAtEnd : (left : Option (List ℕ)) → IsAtEnd (read_out left)
read_out-IsAtEnd None = tt
read_out-IsAtEnd (Some t) = refl

-- all of a file that was read to its end was taken
all_taken : (told : Option (List ℕ)) (text : List ℕ) → IsTold told text → told ≡ prepend_known text (read_out told)
all_taken None text is = refl
all_taken (Some t) text is = ap Some (sym (append-nil text ∙ is))

-- where memory runs out after a file within its limit was read whole, the file gives nothing
pub ran_out_after : {R : Type 0} (limit : ℕ) (Refuses : List ℕ → R → Type 0) (before after : Sources) (name text : List ℕ)
    → ReadWhole before after name text → length text ≤ limit → Unread limit Refuses before after name ends.Memory
ran_out_after limit Refuses before after name text read short = record {
  taken = record {
    taken = text;
    few = omega (arith, short);
    bytes = rw read.at_end (all_taken (before.left name) text read.is_told);
  };
  others = read.others;
  quiet = read.quiet;
}

-- a refusal for one reason is a refusal for another, where each text that has the first has the second
pub refused_so : {R : Type 0} (limit : ℕ) (P Q : List ℕ → R → Type 0) (before after : Sources) (name : List ℕ) (end : FileEnd R)
    → ((text : List ℕ) (why : R) → P text why → Q text why)
    → Unread limit P before after name end → Unread limit Q before after name end
refused_so limit P Q before after name (ends.Refused why) f (Whole text read short r) = Whole text read short (f text why r)
refused_so limit P Q before after name (ends.Refused why) f (TooLong text read r) = TooLong text read (f text why r)
refused_so limit P Q before after name ends.Read f failed = failed
refused_so limit P Q before after name ends.Memory f out = out

-- where a file gives nothing, other files keep what they have left
pub unread_others : {R : Type 0} (limit : ℕ) (P : List ℕ → R → Type 0) (before after : Sources) (name : List ℕ) (end : FileEnd R)
    → Unread limit P before after name end → OthersKept name before.left after.left
unread_others limit P before after name (ends.Refused why) (Whole text read short r) = read.others
unread_others limit P before after name (ends.Refused why) (TooLong text read r) = read.others
unread_others limit P before after name ends.Read failed = failed.others
unread_others limit P before after name ends.Memory out = out.others

-- whatever a file gives, other files keep what they have left
pub others_kept : {T R : Type 0} (limit : ℕ) (M : List ℕ → T → Type 0) (P : List ℕ → R → Type 0) (before after : Sources) (name : List ℕ) (r : Result T (FileEnd R))
    → FileGives limit M P before after name r → OthersKept name before.left after.left
others_kept limit M P before after name (Ok value) given = given.read.others
others_kept limit M P before after name (Err end) given = unread_others limit P before after name end given

-- one file that was read is the only one
pub one_named : (before after : Sources) (first : List ℕ) → OthersKept first before.left after.left
    → OthersStay (first ∷ []) before after
one_named before after first kept other h = kept other h.0

-- one file was read, and then another
pub both_of_two : (before between after : Sources) (first second : List ℕ)
    → OthersKept first before.left between.left → OthersKept second between.left after.left
    → OthersStay (first ∷ second ∷ []) before after
both_of_two before between after first second a b other h = b other h.1.0 ∙ a other h.0

module _ (limit : ℕ) (before after : Sources) (name : List ℕ) (bytes : Vec ℕ Global) (given : Gives (IsTextOf limit) before after name bytes) where
  -- a value that is the meaning of the bytes is what the file gives
  pub gives_of : {T : Type 0} (Means : List ℕ → T → Type 0) (value : T) (text : List ℕ) → text ≡ bytes.items
      → Means text value
      → Gives Means before after name value
  gives_of Means value text e m = record {
    text = given.text;
    read = given.read;
    means = subst (λ (t : List ℕ). Means t value) (e ∙ given.means.bytes_are) m;
  }

  -- where the bytes are refused, the file gives nothing
  pub refused_of : {R : Type 0} (Refuses : List ℕ → R → Type 0) (why : R) (text : List ℕ) → text ≡ bytes.items
      → Refuses text why
      → Unread limit Refuses before after name (ends.Refused why)
  refused_of Refuses why text e r =
      Whole given.text given.read given.means.short (subst (λ (t : List ℕ). Refuses t why) (e ∙ given.means.bytes_are) r)

  -- where memory runs out after that, the file gives nothing
  pub ran_out : {R : Type 0} (Refuses : List ℕ → R → Type 0) → Unread limit Refuses before after name ends.Memory
  ran_out Refuses = ran_out_after limit Refuses before after name given.text given.read given.means.short
