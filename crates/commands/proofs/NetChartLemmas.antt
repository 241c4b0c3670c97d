-- The charts of a net, read one after another.
use Rattle.std.proofs.Common.{◌≡◌, ◌∙◌, ℕ, zero, suc, Bool, true, false, cond, refl, sym, ap, subst, List, [], ◌∷◌}
use Rattle.std.proofs.Common.{◌++◌, append_assoc, append-nil}
use Rattle.std.proofs.Common.{Option, Some, None, is_some, option_map, length, take, drop, ◌<◌, ◌+◌, arith}
use Rattle.std.specs.Prelude.{slice_get, map, nat_lt}
use Rattle.std.specs.List.{find, position, position_or_len}
use Rattle.std.specs.Str.{bytes_eq}
use Rattle.std.proofs.lemmas.Bool.{ltb-false}
use lib.ListN.{get_or, length-take}
use Rattle.std.proofs.lemmas.List.Folds.{find_at}
use Rattle.std.proofs.lemmas.Option.{slice_get_past, slice_get_read}
use Rattle.std.proofs.lemmas.Slice.Eq.{bytes_eq-Decides}
use Rattle.chart_tree.specs.declared.limits.TheConstants.{CHART_TEXT_LIMIT}
use Rattle.checked_chart.specs.Chart.{Chart}
use Rattle.checked_chart.specs.Kept.{chart_of}
use Rattle.net_text.specs.declared.net.NetChart.{NetChart}
use Rattle.commands.specs.Accepted.{RefusesAccepted}
use Rattle.commands.specs.Call.{Sources, OthersStay}
use Rattle.commands.specs.NetCharts.{LoadedChart, loaded_as, chart_known, GivesChart, ReadsCharts, chart_in}
use Rattle.commands.specs.NetCharts.{chart_numbered}
use Rattle.commands.specs.NetCharts.{AllRead, ChartUnread, before_charts, loaded_in}
use Rattle.commands.specs.NetFiles.{IsTaken, IsReadFile}
use Rattle.commands.specs.Reading.{Unread}
use Rattle.commands.specs.declared.file.FileEnd.{FileEnd}
use Rattle.commands.specs.declared.net_charts.ReadFile.{ReadFile}
use Rattle.commands.specs.declared.refusal.Refusal.{Refusal}

-- ---- what is found in a list

-- the first that passes stands at the place of the first that passes
pub found : {A : Type 0} (p : A → Bool) (xs : List A) (i : ℕ) → Some i ≡ position p xs → find p xs ≡ slice_get xs i
found p xs i e = go (nat_lt (position_or_len p xs) (length xs)) e
  where
    go : (b : Bool) → Some i ≡ cond b (Some (position_or_len p xs)) None → find p xs ≡ slice_get xs i
    go true e = let same : i ≡ position_or_len p xs = cc in find_at p xs ∙ ap (slice_get xs) (sym same)
    go false e = absurd cc

-- where there is no such place, none passes
pub unfound : {A : Type 0} (p : A → Bool) (xs : List A) → None ≡ position p xs → find p xs ≡ None
unfound p xs e = go (nat_lt (position_or_len p xs) (length xs)) refl e
  where
    go : (b : Bool) → nat_lt (position_or_len p xs) (length xs) ≡ b
        → None ≡ cond b (Some (position_or_len p xs)) None → find p xs ≡ None
    go true same e = absurd cc
    go false same e =
        find_at p xs ∙ slice_get_past xs (position_or_len p xs) (ltb-false (position_or_len p xs) (length xs) same)

-- the first option, or else the second
abbrev pub or_else : {A : Type 0} → Option A → Option A → Option A
or_else None b = b
or_else (Some a) b = Some a

-- what is found with one more
pub find_more : {A B : Type 0} (h : A → B) (p : A → Bool) (xs : List A) (x : A)
    → option_map h (find p (xs ++ x ∷ [])) ≡ or_else (option_map h (find p xs)) (cond (p x) (Some (h x)) None)
find_more h p [] x = go (p x)
  where
    go : (b : Bool) → option_map h (cond b (Some x) None) ≡ cond b (Some (h x)) None
    go true = refl
    go false = refl
find_more h p (y ∷ xs) x = go (p y) (find_more h p xs x)
  where
    go : (b : Bool)
        → option_map h (find p (xs ++ x ∷ [])) ≡ or_else (option_map h (find p xs)) (cond (p x) (Some (h x)) None)
        → option_map h (cond b (Some y) (find p (xs ++ x ∷ [])))
        ≡ or_else (option_map h (cond b (Some y) (find p xs))) (cond (p x) (Some (h x)) None)
    go true e = refl
    go false e = e

-- a text is itself
same_text : (t : List ℕ) → bytes_eq t t ≡ true
same_text t = (bytes_eq-Decides t t).1 refl

-- ---- charts that were read

-- a chart after others
known_more : (name : List ℕ) (loaded : List LoadedChart) (l : LoadedChart)
    → chart_known name (loaded ++ l ∷ []) ≡ or_else (chart_known name loaded)
    (cond (bytes_eq l.file name) (Some l.chart) None)
known_more name loaded l =
    find_more (λ (c : LoadedChart). c.chart) (λ (c : LoadedChart). bytes_eq c.file name) loaded l

-- a file after others
in_more : (name : List ℕ) (files : List ReadFile) (f : ReadFile)
    → chart_in (files ++ f ∷ []) name ≡ or_else (chart_in files name) (cond (bytes_eq f.file name)
    (Some (chart_of f.chart)) None)
in_more name files f =
    find_more (λ (g : ReadFile). chart_of g.chart) (λ (g : ReadFile). bytes_eq g.file name) files f

-- one chart more is read after others
pub reads_more : (earlier : List LoadedChart) (before now after : Sources) (ahead : List NetChart) (c : NetChart)
    (chart : Chart)
    (loaded : List LoadedChart) → ReadsCharts earlier before now ahead loaded
    → GivesChart (chart_known c.file (earlier ++ loaded)) now after c.file chart
    → ReadsCharts earlier before after (ahead ++ c ∷ []) (loaded ++ loaded_as c chart ∷ [])
reads_more earlier before now after [] c chart loaded reads gives =
    let none : loaded ≡ [] = reads.0 in
    let same : earlier ++ loaded ≡ earlier = ap (λ (l : List LoadedChart). earlier ++ l) none ∙ append-nil earlier in (
      chart,
      [],
      after,
      ap (λ (l : List LoadedChart). l ++ loaded_as c chart ∷ []) none,
      subst (λ (s : Sources). GivesChart (chart_known c.file earlier) s after c.file chart) reads.1
          (subst (λ (l : List LoadedChart). GivesChart (chart_known c.file l) now after c.file chart) same gives),
      (refl, refl),
    )
reads_more earlier before now after (a ∷ ahead) c chart loaded reads gives =
    let first = loaded_as a reads.0 in
    let same : earlier ++ loaded ≡ (earlier ++ first ∷ []) ++ reads.1 =
    ap (λ (l : List LoadedChart). earlier ++ l) reads.3 ∙ sym (append_assoc earlier (first ∷ []) reads.1) in (
      reads.0,
      reads.1 ++ loaded_as c chart ∷ [],
      reads.2,
      ap (λ (l : List LoadedChart). l ++ loaded_as c chart ∷ []) reads.3,
      reads.4,
      reads_more (earlier ++ first ∷ []) reads.2 now after ahead c chart reads.1 reads.5
          (subst (λ (l : List LoadedChart). GivesChart (chart_known c.file l) now after c.file chart) same gives),
    )

-- ---- the files of the charts

-- a chart more among those whose files were read
pub loaded_more : (files : List ReadFile) (ahead : List NetChart) (c : NetChart) (chart : Chart)
    → chart_in files c.file ≡ Some chart
    → loaded_in files (ahead ++ c ∷ []) ≡ loaded_in files ahead ++ loaded_as c chart ∷ []
loaded_more files [] c chart e = ap (λ (o : Option Chart). before_charts c o []) e
loaded_more files (a ∷ ahead) c chart e = go (chart_in files a.file) (loaded_more files ahead c chart e)
  where
    go : (o : Option Chart) → loaded_in files (ahead ++ c ∷ []) ≡ loaded_in files ahead ++ loaded_as c chart ∷ []
        → before_charts a o (loaded_in files (ahead ++ c ∷ [])) ≡ before_charts a o
        (loaded_in files ahead) ++ loaded_as c chart ∷ []
    go None e = e
    go (Some x) e = ap (λ (l : List LoadedChart). loaded_as a x ∷ l) e

-- all of them, and one more
all_more : (files : List ReadFile) (ahead : List NetChart) (c : NetChart) (chart : Chart)
    → chart_in files c.file ≡ Some chart
    → AllRead files ahead → AllRead files (ahead ++ c ∷ [])
all_more files [] c chart e all = (ap is_some e, tt)
all_more files (a ∷ ahead) c chart e all = (all.0, all_more files ahead c chart e all.1)

-- a file more changes nothing of what was found
found_still : (files : List ReadFile) (f : ReadFile) (name : List ℕ) → is_some (chart_in files name) ≡ true
    → chart_in (files ++ f ∷ []) name ≡ chart_in files name
found_still files f name e = in_more name files f ∙ go (chart_in files name) e
  where
    go : (o : Option Chart) → is_some o ≡ true
        → or_else o (cond (bytes_eq f.file name) (Some (chart_of f.chart)) None) ≡ o
    go None e = absurd cc
    go (Some x) e = refl

-- nor of the charts whose files were all read
loaded_still : (files : List ReadFile) (f : ReadFile) (charts : List NetChart) → AllRead files charts
    → loaded_in (files ++ f ∷ []) charts ≡ loaded_in files charts
loaded_still files f [] all = refl
loaded_still files f (c ∷ charts) all = λ i.
    before_charts c (found_still files f c.file all.0 i) (loaded_still files f charts all.1 i)

-- and all of them still are
all_still : (files : List ReadFile) (f : ReadFile) (charts : List NetChart) → AllRead files charts → AllRead
    (files ++ f ∷ []) charts
all_still files f [] all = tt
all_still files f (c ∷ charts) all = (
  ap is_some (found_still files f c.file all.0)
      ∙ all.0,
  all_still files f charts all.1,
)

-- ---- how far reading is

-- the files of the first charts were read, and no other ones
pub record Progress (before now : Sources) (ahead : List NetChart) (files : List ReadFile) : Type 0 where
  pub read : ReadsCharts [] before now ahead (loaded_in files ahead)
  pub all : AllRead files ahead
  pub known : (name : List ℕ) → chart_known name (loaded_in files ahead) ≡ chart_in files name

-- nothing was read
pub begun : (before : Sources) → Progress before before [] []
begun before = record { read = (refl, refl); all = tt; known = λ name. refl }

-- a chart whose file was read before
with_known : (before now after : Sources) (ahead : List NetChart) (files : List ReadFile) (c : NetChart) (chart : Chart)
    → Progress before now ahead files → chart_in files c.file ≡ Some chart → after ≡ now
    → Progress before after (ahead ++ c ∷ []) files
with_known before now after ahead files c chart p e same =
    let loaded = loaded_in files ahead in
    let more = loaded_more files ahead c chart e in
    let is : chart_known c.file loaded ≡ Some chart = p.known c.file ∙ e in
    record {
      read = subst (λ (l : List LoadedChart). ReadsCharts [] before after (ahead ++ c ∷ []) l) (sym more)
          (reads_more [] before now after ahead c chart loaded p.read
          (subst (λ (o : Option Chart). GivesChart o now after c.file chart) (sym is) (refl, same)));
      all = all_more files ahead c chart e p.all;
      known = λ name. ap (chart_known name) more ∙ known_more name loaded (loaded_as c chart)
          ∙ go name (chart_known name loaded) refl (bytes_eq c.file name) refl ∙ p.known name;
    }
  where
    go : (name : List ℕ) (o : Option Chart) → chart_known name (loaded_in files ahead) ≡ o → (b : Bool)
        → bytes_eq c.file name ≡ b → or_else o (cond b (Some chart) None) ≡ o
    go name (Some x) here b same = refl
    go name None here false same = refl
    go name None here true same =
        let named : c.file ≡ name = (bytes_eq-Decides c.file name).0 same in
        absurd (let bad = sym here ∙ (ap (λ (t : List ℕ). chart_known t (loaded_in files ahead)) (sym named)
        ∙ p.known c.file ∙ e) in cc)

-- a chart whose file is read now
with_added : (before now after : Sources) (ahead : List NetChart) (files : List ReadFile) (c : NetChart) (f : ReadFile)
    → Progress before now ahead files → chart_in files c.file ≡ None → IsReadFile now after c.file f
    → Progress before after (ahead ++ c ∷ []) (files ++ f ∷ [])
with_added before now after ahead files c f p e read =
    let chart = chart_of f.chart in
    let new = files ++ f ∷ [] in
    let same_loaded = loaded_still files f ahead p.all in
    let loaded = loaded_in files ahead in
    let named : bytes_eq f.file c.file ≡ true = ap (λ (t : List ℕ). bytes_eq t c.file) read.named ∙ same_text c.file in
    let here : chart_in new c.file ≡ Some chart =
    in_more c.file files f
    ∙ ap (λ (o : Option Chart). or_else o (cond (bytes_eq f.file c.file) (Some chart) None)) e
    ∙ ap (λ b. cond b (Some chart) None) named in
    let none : chart_known c.file loaded ≡ None = p.known c.file ∙ e in
    let more : loaded_in new (ahead ++ c ∷ []) ≡ loaded ++ loaded_as c chart ∷ [] =
    loaded_more new ahead c chart here ∙ ap (λ (l : List LoadedChart). l ++ loaded_as c chart ∷ []) same_loaded in
    record {
      read = subst (λ (l : List LoadedChart). ReadsCharts [] before after (ahead ++ c ∷ []) l) (sym more)
          (reads_more [] before now after ahead c chart loaded p.read
          (subst (λ (o : Option Chart). GivesChart o now after c.file chart) (sym none) read.given));
      all = all_more new ahead c chart here (all_still files f ahead p.all);
      known = λ name. ap (chart_known name) more ∙ known_more name loaded (loaded_as c chart)
          ∙ ap (λ (o : Option Chart). or_else o (cond (bytes_eq c.file name) (Some chart) None)) (p.known name)
          ∙ ap (λ (t : List ℕ). or_else (chart_in files name) (cond (bytes_eq t name) (Some chart) None))
          (sym read.named)
          ∙ sym (in_more name files f);
    }

-- one chart more
pub one_more : (before now after : Sources) (ahead : List NetChart) (files new : List ReadFile) (c : NetChart)
    (name : List ℕ) → Progress before now ahead files → name ≡ c.file
    → IsTaken (chart_in files name) now after name files new
    → Progress before after (ahead ++ c ∷ []) new
one_more before now after ahead files new c name p named taken =
    go (chart_in files c.file) refl
    (subst (λ (t : List ℕ). IsTaken (chart_in files t) now after t files new) named taken)
  where
    go : (o : Option Chart) → chart_in files c.file ≡ o → IsTaken o now after c.file files new
        → Progress before after (ahead ++ c ∷ []) new
    go None e added =
        subst (λ (l : List ReadFile). Progress before after (ahead ++ c ∷ []) l) (sym added.is)
        (with_added before now after ahead files c added.f p e added.read)
    go (Some chart) e same =
        subst (λ (l : List ReadFile). Progress before after (ahead ++ c ∷ []) l) (sym same.0)
        (with_known before now after ahead files c chart p e same.1)

-- ---- charts by their numbers

-- the chart of a number is the one that was loaded
pub numbered : (files : List ReadFile) (charts : List NetChart) (n : ℕ) → AllRead files charts
    → chart_numbered charts files n ≡ option_map (λ (c : LoadedChart). c.chart) (slice_get (loaded_in files charts) n)
numbered files [] n all = refl
numbered files (c ∷ charts) zero all = go (chart_in files c.file) all.0
  where
    go : (o : Option Chart) → is_some o ≡ true
        → o ≡ option_map (λ (l : LoadedChart). l.chart) (slice_get (before_charts c o (loaded_in files charts)) 0)
    go None some = absurd cc
    go (Some chart) some = refl
numbered files (c ∷ charts) (suc n) all = numbered files charts n all.1 ∙ go (chart_in files c.file) all.0
  where
    go : (o : Option Chart) → is_some o ≡ true
        → option_map (λ (l : LoadedChart). l.chart) (slice_get (loaded_in files charts) n)
        ≡ option_map (λ (l : LoadedChart). l.chart) (slice_get (before_charts c o (loaded_in files charts)) (suc n))
    go None some = absurd cc
    go (Some chart) some = refl

-- ---- other files

-- files that no chart has are left as they were
pub reads_others : (earlier : List LoadedChart) (before after : Sources) (charts : List NetChart)
    (loaded : List LoadedChart)
    → ReadsCharts earlier before after charts loaded
    → OthersStay (map (λ (c : NetChart). c.file) charts) before after
reads_others earlier before after [] loaded reads other h = ap (λ (s : Sources). s.left other) reads.1
reads_others earlier before after (c ∷ charts) loaded reads other h =
    reads_others (earlier ++ loaded_as c reads.0 ∷ []) reads.2 after charts reads.1 reads.5 other h.1
    ∙ here (chart_known c.file earlier) reads.4
  where
    here : (o : Option Chart) → GivesChart o before reads.2 c.file reads.0 → reads.2.left other ≡ before.left other
    here None gives = gives.read.others other h.0
    here (Some known) gives = ap (λ (s : Sources). s.left other) gives.1

-- ---- where reading stops

-- the first charts, one, and the others
pub cut_at : {A : Type 0} (xs : List A) (i : ℕ) (x : A) → i < length xs → x ≡ get_or xs i x
    → xs ≡ take i xs ++ x ∷ drop (suc i) xs
cut_at {A} [] i x lt is = absurd (omega arith)
cut_at {A} (y ∷ xs) zero x lt is = ap (λ (z : A). z ∷ xs) (sym is)
cut_at {A} (y ∷ xs) (suc i) x lt is = ap (λ (zs : List A). y ∷ zs) (cut_at xs i x (omega arith) is)

-- one more of the first
take_next : {A : Type 0} (xs : List A) (i : ℕ) (x : A) → i < length xs → x ≡ get_or xs i x
    → take (suc i) xs ≡ take i xs ++ x ∷ []
take_next {A} [] i x lt is = absurd (omega arith)
take_next {A} (y ∷ xs) zero x lt is = ap (λ (z : A). z ∷ []) (sym is)
take_next {A} (y ∷ xs) (suc i) x lt is = ap (λ (zs : List A). y ∷ zs) (take_next xs i x (omega arith) is)

-- the same with the number after it as a sum
pub take_more : {A : Type 0} (xs : List A) (i : ℕ) (x : A) → i < length xs → x ≡ get_or xs i x
    → take (i + 1) xs ≡ take i xs ++ x ∷ []
take_more {A} xs i x lt is =
    let next : i + 1 ≡ suc i = omega arith in ap (λ (n : ℕ). take n xs) next ∙ take_next xs i x lt is

-- nothing comes of the file of the next chart
pub stops_at : (before now after : Sources) (charts : List NetChart) (n : ℕ) (c : NetChart) (files : List ReadFile)
    (end : FileEnd Refusal) (name : List ℕ) → Progress before now (take n charts) files → n < length charts
    → c ≡ get_or charts n c → name ≡ c.file
    → (chart_in files name ≡ None) × Unread CHART_TEXT_LIMIT RefusesAccepted now after name end
    → ChartUnread before after charts n end
stops_at before now after charts n c files end name p lt is named stop = record {
  ahead = take n charts;
  chart = c;
  later = drop (suc n) charts;
  parts = cut_at charts n c lt is;
  number_is = omega (arith, length-take n charts, lt);
  loaded = loaded_in files (take n charts);
  between = now;
  ahead_read = p.read;
  new = p.known c.file ∙ subst (λ (t : List ℕ). chart_in files t ≡ None) named stop.0;
  unread = subst (λ (t : List ℕ). Unread CHART_TEXT_LIMIT RefusesAccepted now after t end) named stop.1;
}

-- the first that is found, by its place
pub found_at : {A : Type 0} (p : A → Bool) (xs : List A) (i : ℕ) (x : A) → Some i ≡ position p xs → i < length xs
    → x ≡ get_or xs i x → find p xs ≡ Some x
found_at p xs i x e lt is = found p xs i e ∙ slice_get_read xs (length xs) i x refl lt is
