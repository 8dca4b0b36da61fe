-- What reading answers: 12 exactly where the layout's facts fail, and the sizes of a plan that passed. Assumes nothing.
use mathlib.Core.Path.{◌≡◌, refl, sym, subst, ◌∙◌}
use mathlib.Core.Bool.{true, false}
use mathlib.Core.Logic.{◌≢◌}
use mathlib.Core.List.{List}
use Prim.Native.Nat.{ℕ, ◌≤◌}
use native.Mathlib.Omega.{arith}
use borrow.Author.Tests.{ne_eqb}
use Rattle.rack.proofs.Logic.{by_bool, not_true_false}
use Rattle.rack.proofs.Refusals.{cond_within}
use Rattle.reader.specs.Plan.{layout_holds, plan_refusal}
use Rattle.reader.specs.Reading.{Sizes, LaidOut, SizesSay, no_sizes, layout_refusal, LayoutSays, ReadSays}
use Rattle.reader.proofs.Plan.{Layout, layout_facts, facts_layout, layout_read, plan_clear}

module _ (ps : List ℕ) where
  -- 12 OR NONE
  pub layout_clear : layout_refusal ps ≡ 0 → layout_holds ps ≡ true
  unfolding layout_refusal
  layout_clear e = by_bool (layout_holds ps) (λ t. t) (λ (t : layout_holds ps ≡ false). let n = rw t at e in absurd (omega arith))

  pub layout_refusal_within : layout_refusal ps ≤ 12
  unfolding layout_refusal
  layout_refusal_within = cond_within (layout_holds ps) 0 12 12 (omega arith) (omega arith)

  -- a refusal has no sizes
  pub no_sizes_say : (refused : ℕ) (r : Sizes) → refused ≢ 0 → r ≡ no_sizes refused → SizesSay ps refused r
  no_sizes_say refused r n e =
      let t = ne_eqb refused 0 n in
      subst (SizesSay ps refused) (sym e) (record { number = refl; cards = rw t refl; links = rw t refl; columns = rw t refl })

  pub layout_refused : (r : Sizes) → (Layout ps → ⊥) → r ≡ no_sizes 12 → LayoutSays ps r
  unfolding layout_refusal
  layout_refused r h e = rw (not_true_false (layout_holds ps) (λ t. h (layout_facts ps t))) (no_sizes_say 12 r (λ z. omega arith) e)

  pub layout_passed : (r : Sizes) → LaidOut ps r → r.number ≡ 0 → LayoutSays ps r
  unfolding layout_refusal
  layout_passed r z e =
      let s : SizesSay ps 0 r = record { number = e; cards = z.cards; links = z.links; columns = z.columns } in
      rw (facts_layout ps z) s

  -- WHAT A CALLER LEARNS from the answer
  pub says_layout : (r : Sizes) → LayoutSays ps r → r.number ≡ 0 → layout_holds ps ≡ true
  says_layout r s e = layout_clear (sym s.number ∙ e)

  pub says_laid_out : (r : Sizes) → LayoutSays ps r → r.number ≡ 0 → LaidOut ps r
  unfolding layout_refusal
  says_laid_out r s e =
      let t = says_layout r s e in
      let z : SizesSay ps 0 r = rw t at s in
      layout_read ps r.cards r.links r.columns z.cards z.links z.columns (layout_facts ps t)

  pub says_no_layout : (r : Sizes) → LayoutSays ps r → r.number ≢ 0 → layout_holds ps ≡ false
  unfolding layout_refusal
  says_no_layout r s n = not_true_false (layout_holds ps) (λ (t : layout_holds ps ≡ true). n (let f : SizesSay ps 0 r = rw t at s in f.number))

  -- the same of what reading answers
  pub read_laid_out : (r : Sizes) → ReadSays ps r → r.number ≡ 0 → LaidOut ps r
  read_laid_out r s e =
      let read : plan_refusal ps ≡ 0 = sym s.number ∙ e in
      let z : SizesSay ps 0 r = rw read at s in
      layout_read ps r.cards r.links r.columns z.cards z.links z.columns (layout_facts ps (plan_clear ps read).0)
