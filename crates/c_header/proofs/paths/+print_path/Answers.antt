use Rattle.std.proofs.Common.{◌++◌, List, ℕ, sym, ap, ◌∙◌, append_assoc, refl, arith}
use Rattle.std.specs.Prelude.{string_bytes}
use Rattle.std.proofs.lemmas.List.{append-nil}
use Rattle.actions.specs.Names.{names_of}
use Rattle.c_header.proofs.PartLemmas.{last}
use Rattle.c_header.proofs.PathLemmas.{path-root, path-first, path-next}
use Rattle.c_header.proofs.paths.+print_path.Goals as goal

pub returns-in_default : goal.returns-in_default
returns-in_default t c =
    sym (append-nil (string_bytes c.args.out.now))
    ∙ ap (λ (text : List ℕ). string_bytes c.args.out.now ++ text)
    (sym (path-root c.args.tree.now c.requires.tree c.args.form (names_of c.args.names.now) c.args.state
    c.requires.state
    (let a = c.in_default.ensures.parent in let b = c.in_default.is in let d = c.parent.ensures.parent in cc)))

pub returns-then-parent-eq0 : goal.returns-then-parent-eq0
returns-then-parent-eq0 t c =
    last _ _ _ _ c.print_part.ensures
    (rw (
      c.name_of.ensures,
      path-first c.args.tree.now c.requires.tree c.args.form (names_of c.args.names.now) c.args.state
          c.in-Some.parent
          (let a = c.in-Some.ensures.parent in let b = c.in-Some.is in
          let d = c.parent.ensures.parent in cc) (omega arith),
    ) refl)

pub returns-in_ok-push_str : goal.returns-in_ok-push_str
returns-in_ok-push_str t c =
    last _ _ _ _ c.print_part-else-parent-eq0.ensures
    (rw (
      c.in_ok-push_str.ensures.bytes,
      c.separator.ensures,
      c.in_ok-print_path.ensures,
      c.name_of-else-parent-eq0.ensures,
      path-next c.args.tree.now c.requires.tree c.args.form (names_of c.args.names.now) c.args.state
          c.in-Some.parent
          (let a = c.in-Some.ensures.parent in let b = c.in-Some.is in
          let d = c.parent.ensures.parent in cc) (omega arith),
    )
    (simp append_assoc))
