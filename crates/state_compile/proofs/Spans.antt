-- How the procedures of a state are written one after the other.
use Rattle.std.proofs.Common.{◌≡◌, ◌∙◌, ℕ, suc, ◌+◌, ◌-◌, ◌<◌, ◌≤◌, List, [], ◌∷◌, ◌++◌, map, sym, ap, arith}
use Rattle.std.proofs.Common.{append_assoc}
use Rattle.std.proofs.lemmas.List.{map-append, append-nil}
use Rattle.chart_code.specs.Orders.{span}

-- ---- spans

module _ {A B : Type 0} (g : A → B) (f : ℕ → A) where
  -- what is written and what is left of a span are all; the same after the number d
  pub span_turn : (d e : ℕ) (old new all : List B) → d < e → old ++ map g (span f d (e - d)) ≡ all
      → new ≡ old ++ g (f d) ∷ [] → new ++ map g (span f (d + 1) (e - (d + 1))) ≡ all
  unfolding span
  span_turn d e old new all lt before step =
      let n : e - d ≡ suc (e - (d + 1)) = omega arith in
      let m : d + 1 ≡ suc d = omega arith in
      ap (λ l. l ++ map g (span f (d + 1) (e - (d + 1)))) step
      ∙ append_assoc old (g (f d) ∷ []) (map g (span f (d + 1) (e - (d + 1))))
      ∙ ap (λ k. old ++ (g (f d) ∷ map g (span f k (e - (d + 1))))) m
      ∙ ap (λ k. old ++ map g (span f d k)) (sym n) ∙ before

  -- nothing is left
  pub span_over : (d e : ℕ) (old all : List B) → e ≤ d → old ++ map g (span f d (e - d)) ≡ all → old ≡ all
  unfolding span
  span_over d e old all le before =
      let n : e - d ≡ 0 = omega arith in
      sym (append-nil old) ∙ ap (λ k. old ++ map g (span f d k)) (sym n) ∙ before

  -- a span by other numbers
  pub span_same : (a b n k : ℕ) (old : List B) → a ≡ b → n ≡ k → old ++ map g (span f a n) ≡ old ++ map g (span f b k)
  span_same a b n k old e h =
      ap (λ i. old ++ map g (span f i n)) e ∙ ap (λ i. old ++ map g (span f b i)) h

-- ---- parts

module _ {A B : Type 0} (g : A → B) where
  -- two parts are written one after the other
  pub both : (xs ys : List A) (old one new : List B) → one ≡ old ++ map g xs → new ≡ one ++ map g ys
      → new ≡ old ++ map g (xs ++ ys)
  both xs ys old one new first second =
      second ∙ ap (λ l. l ++ map g ys) first ∙ append_assoc old (map g xs) (map g ys)
      ∙ ap (λ l. old ++ l) (sym (map-append g xs ys))

  -- the parts of a group are written one after the other
  pub all_parts : (leave exit defaults arrive : A) (arrivals search takes : List A) (old one two new : List B)
      → one ≡ old ++ map g (leave ∷ exit ∷ arrivals)
      → two ≡ one ++ map g (search ++ (defaults ∷ arrive ∷ []))
      → new ≡ two ++ map g takes
      → new ≡ old ++ map g (leave ∷ exit ∷ (arrivals ++ (search ++ (defaults ∷ arrive ∷ takes))))
  all_parts leave exit defaults arrive arrivals search takes old one two new first second third =
      let front = leave ∷ exit ∷ arrivals in
      let middle = search ++ (defaults ∷ arrive ∷ []) in
      both (front ++ middle) takes old two new (both front middle old one two first second) third
      ∙ ap (λ l. old ++ map g l) (append_assoc front middle takes)
      ∙ ap (λ l. old ++ map g (front ++ l)) (append_assoc search (defaults ∷ arrive ∷ []) takes)

  -- the end mark and six regions are all
  pub all_regions : (mark : A) (one two three four five six : List A) (none first second all : List B) → none ≡ []
      → first ≡ none ++ g mark ∷ [] → second ≡ first ++ map g (one ++ (two ++ three))
      → all ≡ second ++ map g (four ++ (five ++ six))
      → all ≡ map g (mark ∷ (one ++ (two ++ (three ++ (four ++ (five ++ six))))))
  all_regions mark one two three four five six none first second all e f s a =
      let last = four ++ (five ++ six) in
      both (mark ∷ (one ++ (two ++ three))) last none second all
      (both (mark ∷ []) (one ++ (two ++ three)) none first second f s) a
      ∙ ap (λ l. l ++ map g (mark ∷ ((one ++ (two ++ three)) ++ last))) e
      ∙ ap (λ l. map g (mark ∷ l)) (append_assoc one (two ++ three) last)
      ∙ ap (λ l. map g (mark ∷ (one ++ l))) (append_assoc two three last)
