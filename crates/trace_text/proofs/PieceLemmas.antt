-- A text that goes out in pieces.
use Rattle.std.proofs.Common.{◌≡◌, ℕ, ◌+◌, ◌≤◌, Bool, true, false, List, [], ◌∷◌, ◌++◌, length}
use Rattle.std.proofs.Common.{take, drop, Option, Some, None, Result, Ok, Err, OnOk, OnErr, refl}
use Rattle.std.proofs.Common.{sym, ap, ◌∙◌, subst, arith, append_assoc, append-nil, length-append}
use Rattle.std.specs.Io.KnownBytes.{append_known}
use Rattle.std.proofs.lemmas.List.{take-append-le, take-append-drop, take_at, length-take-le}
use Rattle.std.proofs.Math.Seq.{take-append-add}
use Rattle.flow_base.specs.Bytes.{AppendsProperFront}
use Rattle.flow_base.specs.Causes.{Rose, HasCause}
use Rattle.flow_base.specs.declared.inputs.Failed.{Failed}
use Rattle.flow_base.proofs.Pieces.{append_known-append}
use Rattle.trace_text.specs.Pieces.{Held, Passed, CutOff, Written, Puts, Ends, kept, nothing_held}

-- what was kept is written
pub flushed : (w w1 w2 : Option (List ℕ)) (f f1 f2 : ℕ) (text held : List ℕ) → Passed w w1 f f1 text held
    → w2 ≡ append_known w1 held → f2 ≡ f1 → Passed w w2 f f2 text []
flushed w w1 w2 f f1 f2 text held p out same = record {
  sent = p.sent ++ held;
  parts = p.parts ∙ sym (append-nil (p.sent ++ held));
  written = out ∙ ap (λ (z : Option (List ℕ)). append_known z held) p.written ∙ append_known-append w p.sent held;
  count = same ∙ p.count;
}

-- what was kept can't be written
pub flush_failed : (w w1 w2 : Option (List ℕ)) (f f1 f2 : ℕ) (text held : List ℕ) → Passed w w1 f f1 text held
    → AppendsProperFront w1 w2 held → Rose f1 f2 → f1 ≤ f2 → CutOff w w2 f f2 text
flush_failed w w1 w2 f f1 f2 text held p front rose later = record {
  front = record {
    count = length p.sent + front.count;
    proper = omega (arith, front.proper, ap length p.parts, length-append p.sent held);
    bytes = front.bytes ∙ ap (λ (z : Option (List ℕ)). append_known z (take front.count held)) p.written
        ∙ append_known-append w p.sent (take front.count held)
        ∙ ap (append_known w) (sym (ap (take (length p.sent + front.count)) p.parts ∙ take-append-add p.sent held front.count));
  };
  count = let same = p.count in rw (← same) rose;
  later = omega (arith, p.count);
}

-- a text more is kept
pub pushed : (w w1 : Option (List ℕ)) (f f1 : ℕ) (text held more : List ℕ) → Passed w w1 f f1 text held
    → Passed w w1 f f1 (text ++ more) (held ++ more)
pushed w w1 f f1 text held more p = record {
  sent = p.sent;
  parts = ap (λ (z : List ℕ). z ++ more) p.parts ∙ append_assoc p.sent held more;
  written = p.written;
  count = p.count;
}

-- a text that was cut off is cut off whatever comes after it
pub cut_more : (w w1 : Option (List ℕ)) (f f1 : ℕ) (text more : List ℕ) → CutOff w w1 f f1 text → CutOff w w1 f f1 (text ++ more)
cut_more w w1 f f1 text more c = record {
  front = record {
    count = c.front.count;
    proper = omega (arith, c.front.proper, length-append text more);
    bytes = c.front.bytes ∙ ap (append_known w) (sym (take-append-le c.front.count text more (omega (arith, c.front.proper))));
  };
  count = c.count;
  later = c.later;
}

kept_at : (w w1 : Option (List ℕ)) (f f1 : ℕ) (text more : List ℕ) (held : Held) (failed : Bool) → held.failed ≡ failed
    → Written w w1 f f1 text held → Written w w1 f f1 (text ++ more) (kept held more)
kept_at w w1 f f1 text more held true e h = let p = rw e at h in rw e (cut_more w w1 f f1 text more p)
kept_at w w1 f f1 text more held false e h = let p = rw e at h in rw e (pushed w w1 f f1 text held.bytes more p)

-- a text more is kept
pub written_kept : (w w1 : Option (List ℕ)) (f f1 : ℕ) (text more : List ℕ) (held new : Held) → new ≡ kept held more
    → Written w w1 f f1 text held → Written w w1 f f1 (text ++ more) new
written_kept w w1 f f1 text more held new is h = rw is (kept_at w w1 f f1 text more held held.failed refl h)

-- two texts more are kept
pub kept_both : (w w1 : Option (List ℕ)) (f f1 : ℕ) (text first second : List ℕ) (held between new : Held)
    → between ≡ kept held first → new ≡ kept between second → Written w w1 f f1 text held
    → Written w w1 f f1 (text ++ (first ++ second)) new
kept_both w w1 f f1 text first second held between new one two h =
    subst (λ (z : List ℕ). Written w w1 f f1 z new) (append_assoc text first second)
    (written_kept w w1 f f1 (text ++ first) second between new two
    (written_kept w w1 f f1 text first held between one h))

-- after a failed write a text more is left out
pub written_failed : (w w1 : Option (List ℕ)) (f f1 : ℕ) (text more : List ℕ) (held : Held) → held.failed ≡ true
    → Written w w1 f f1 text held → Written w w1 f f1 (text ++ more) held
written_failed w w1 f f1 text more held e h = let c = rw e at h in rw e (cut_more w w1 f f1 text more c)

-- digits that are written after what is kept are kept
pub digits_kept : (old new digits rest : List ℕ) (len start : ℕ) → len ≤ length old → start ≡ len → drop start new ≡ digits ++ rest
    → take start new ≡ take start old → take (len + length digits) new ≡ take len old ++ digits
digits_kept old new digits rest len start within at behind before =
    ap (take (len + length digits))
    (sym (take-append-drop start new)
    ∙ ap (λ (z : List ℕ). z ++ drop start new) (before ∙ ap (λ n. take n old) at)
    ∙ ap (λ (z : List ℕ). take len old ++ z) behind
    ∙ sym (append_assoc (take len old) digits rest))
    ∙ take_at (take len old ++ digits) rest (len + length digits)
    (length-append (take len old) digits ∙ ap (λ n. n + length digits) (length-take-le len old within))

-- two bytes that are the same
pub two_bytes : (a b c d : ℕ) → a ≡ c → b ≡ d → a ∷ b ∷ [] ≡ c ∷ d ∷ []
two_bytes a b c d first second = rw (first, second) refl

-- no write failed so far
pub passed : (w w1 : Option (List ℕ)) (f f1 : ℕ) (text : List ℕ) (held : Held) → held.failed ≡ false → Written w w1 f f1 text held
    → Passed w w1 f f1 text held.bytes
passed w w1 f f1 text held e h = rw e at h

-- nothing more is written
pub append_nothing : (w : Option (List ℕ)) → w ≡ append_known w []
append_nothing None = refl
append_nothing (Some bytes) = ap (λ (z : List ℕ). Some z) (sym (append-nil bytes))

-- a write failed
pub cut_off : (w w1 : Option (List ℕ)) (f f1 : ℕ) (text : List ℕ) (held : Held) → held.failed ≡ true → Written w w1 f f1 text held
    → CutOff w w1 f f1 text
cut_off w w1 f f1 text held e h = rw e at h

-- what is kept is still to be written
pub kept_now : (w : Option (List ℕ)) (f : ℕ) (held : Held) → held.failed ≡ false → Written w w f f held.bytes held
kept_now w f held e = rw e (record { sent = []; parts = refl; written = append_nothing w; count = refl })

-- nothing was put
pub nothing_put : (w w1 : Option (List ℕ)) (f f1 : ℕ) (old new : Held) → w1 ≡ w → f1 ≡ f → new ≡ old → Puts w w1 f f1 old new []
nothing_put w w1 f f1 old new wrote count held = λ w0 f0 all h.
    rw (wrote, count, held) (subst (λ (z : List ℕ). Written w0 w f0 f z old) (sym (append-nil all)) h)

-- a text was put after what is kept
pub put_after : (w w1 : Option (List ℕ)) (f f1 : ℕ) (old new : Held) (text : List ℕ) → old.failed ≡ false → Puts w w1 f f1 old new text
    → Written w w1 f f1 (old.bytes ++ text) new
put_after w w1 f f1 old new text open' puts = puts w f old.bytes (kept_now w f old open')

-- ---- a text that was put and finished

-- a text that was put after nothing is what is written and kept
pub put_first : (w w1 : Option (List ℕ)) (f f1 : ℕ) (old new : Held) (text : List ℕ) → old ≡ nothing_held → Puts w w1 f f1 old new text
    → Written w w1 f f1 text new
put_first w w1 f f1 old new text is puts = let p = rw is at puts in p w f [] (kept_now w f nothing_held refl)

-- where it ended well the text was written
pub ends_written : (w w1 : Option (List ℕ)) (f f1 : ℕ) (text : List ℕ) (result : Result (Unit {0}) Failed) → Ends w w1 f f1 text result
    → OnOk result (w1 ≡ append_known w text)
ends_written w w1 f f1 text (Ok done) e = e.written ∙ ap (append_known w) (sym (e.parts ∙ append-nil e.sent))
ends_written w w1 f f1 text (Err failed) e = tt

-- where it failed a proper front was written
pub ends_front : (w w1 : Option (List ℕ)) (f f1 : ℕ) (text : List ℕ) (result : Result (Unit {0}) Failed) → Ends w w1 f f1 text result
    → OnErr result (AppendsProperFront w w1 text)
ends_front w w1 f f1 text (Ok done) e = tt
ends_front w w1 f f1 text (Err failed) e = e.front

-- it failed only where the count rose
pub ends_cause : (w w1 : Option (List ℕ)) (f f1 : ℕ) (text : List ℕ) (result : Result (Unit {0}) Failed) → Ends w w1 f f1 text result
    → HasCause f f1 result
ends_cause w w1 f f1 text (Ok done) e = record { later = omega (arith, e.count); failed = tt; ok = e.count }
ends_cause w w1 f f1 text (Err failed) e = record { later = e.later; failed = e.count; ok = tt }
