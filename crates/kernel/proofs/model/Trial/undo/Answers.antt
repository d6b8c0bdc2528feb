use Rattle.std.proofs.Common.{ℕ, ◌-◌, drop, sym, ◌∙◌, subst, rules}
use Rattle.kernel.specs.Placed.{Placed}
use Rattle.kernel.proofs.model.Trial.undo.Goals as goal

pub returns : goal.returns
returns g c = record {
  undone = search rules;
  same_slices = search rules;
  exact = λ cells h.
      let call = c.remove_down_to-used in
      let t = c.args.self in
      let q = call.ensures.exact cells (record { valid = h.valid; counted = h.counted; standing = h.standing; indexed = h.indexed; stored = h.stored; in_use = h.in_use }) t.marked in
      let p = subst (λ (n : ℕ). Placed g.F.Field.ops g.C.Kind.kind (drop (n - t.mark) cells) c.args.m.now.cells.now call.new.index call.new.columns c.args.m.now.entries.now t.mark call.result) (sym h.counted) q in
      record { fits = (h.fits.0, call.auto.index ∙ h.fits.1, call.auto.columns ∙ h.fits.2, h.fits.3, h.fits.4); valid = p.valid; counted = p.counted; standing = p.standing; indexed = p.indexed; stored = p.stored; in_use = p.in_use };
}
