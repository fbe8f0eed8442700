use Rattle.std.proofs.Common.{eqb, map, sym, ap, ◌∙◌, rules}
use Rattle.std.proofs.lemmas.Iterator.{YieldsList-from_slice, YieldsList-from_map_by}
use Rattle.std.proofs.lemmas.Bool.Decides.{same_from_decides}
use Rattle.std.specs.Cmp.Lexicographic.{pointwise, bytes_decides}
use Rattle.schema.specs.Places.{named}
use Rattle.plan.specs.Links.{names, headings_of, same_path}
use Rattle.plan.proofs.LinkSame.{same_from_eq, decides_path}
use Rattle.plan.proofs.LinkUses.{same-names}
use Rattle.plan.proofs.link.Schemas.same_path.Goals as goal

pub returns : goal.returns
returns c =
    let file = c.args.self.now.file.now in
    let read = c.args.self.now.read.now in
    let ps = map (λ h. named file.image.now h.name) c.args.file_path.now in
    let qs = map (λ h. named read.image.now h.name) c.args.read_path.now in
    let same = same_from_eq (λ t. t.now) (λ x y. pointwise eqb x.now y.now) (λ x y. bytes_decides x.now y.now) ps qs c.eq.result c.eq.ensures.ran
    (YieldsList-from_map_by _ (λ t. t.now) (λ h. named file.image.now h.name) (YieldsList-from_slice c.args.file_path.now cc) c.map.ensures.closure (λ x r q k. search rules))
    (YieldsList-from_map_by _ (λ t. t.now) (λ h. named read.image.now h.name) (YieldsList-from_slice c.args.read_path.now cc) c.map-names.ensures.closure (λ x r q k. search rules)) in
    same_from_decides c.eq.result (same_path ps qs) same (decides_path ps qs)
    ∙ ap (λ p. same_path p qs) (sym (same-names file c.args.file_path.now)) ∙ ap (same_path (names (headings_of file c.args.file_path.now))) (sym (same-names read c.args.read_path.now))
