-- Links that join the same cards have the same column, drawn either way. Assumes nothing.
use mathlib.Core.Path.{◌≡◌, refl, sym, ap, ap₂, ◌∙◌}
use mathlib.Core.Bool.{Bool, true, false, not}
use mathlib.Core.Logic.{inl, inr, ◌≢◌}
use Prim.Native.Nat.{ℕ, ◌<◌}
use native.Mathlib.Omega.{arith}
use lib.Dec.{ltb}
use borrow.Author.Tests.{lt-ltb, le-ltb}
use Rattle.rack.specs.Lists.{differ}
use Rattle.rack.specs.Wiring.{Link, Wiring, link, link_at}
use Rattle.rack.specs.Hops.{hops}
use Rattle.rack.specs.Columns.{nearer_first, side, column}
use Rattle.rack.specs.Refusals.{parity_refusal}
use Rattle.rack.proofs.Logic.{by_lt}
use Rattle.rack.proofs.Lists.{In, in_get_or}
use Rattle.rack.proofs.Tables.{tabulate_ext}
use Rattle.rack.proofs.Paths.{Ends, joins_ends, link_joins}
use Rattle.rack.proofs.Crossing.{Rack}
use Rattle.rack.proofs.Refusals.{well_formed_rack}
use Rattle.rack.proofs.Parity.{no_tie}
use Rattle.twins.specs.Promises.{TwinsAlike}

differ_not : (x y : Bool) → differ (not x) (not y) ≡ differ x y
differ_not true true = refl
differ_not true false = refl
differ_not false true = refl
differ_not false false = refl

ltb_swapped : (x y : ℕ) → x ≢ y → ltb y x ≡ not (ltb x y)
ltb_swapped x y n =
    by_lt x y
    (λ l. le-ltb y x (omega arith) ∙ sym (ap not (lt-ltb x y l)))
    (λ l. lt-ltb y x (omega arith) ∙ sym (ap not (le-ltb x y l)))

-- no card is at equal distance from a link's ends, so a link drawn the other way has the other set at each card, and the set without card 0 is the
-- same
module _ (w : Wiring) (rack : Rack w) (even : (parity_refusal w).number ≡ 0) (l k : Link) (m : In l w.links) where
  nearer_reversed : k.first ≡ l.second → k.second ≡ l.first → (c : ℕ) → c < w.cards → nearer_first w k c ≡ not (nearer_first w l c)
  unfolding nearer_first
  nearer_reversed e f c h =
      ap₂ (λ (x y : ℕ). ltb (hops w c x) (hops w c y)) e f
      ∙ ltb_swapped (hops w c l.first) (hops w c l.second) (no_tie w rack even l.first l.second c (link_joins w l m) h)

  column_reversed : k.first ≡ l.second → k.second ≡ l.first → column w l ≡ column w k
  unfolding column side
  column_reversed e f =
      tabulate_ext w.cards _ _
      (λ c h. sym (ap₂ differ (nearer_reversed e f c h) (nearer_reversed e f 0 rack.some) ∙ differ_not (nearer_first w l c) (nearer_first w l 0)))

  column_same : k.first ≡ l.first → k.second ≡ l.second → column w l ≡ column w k
  unfolding column side nearer_first
  column_same e f = rw (e, f) refl

  pub column_twin : Ends l.first l.second k → column w l ≡ column w k
  column_twin (inl e) = column_same e.0 e.1
  column_twin (inr e) = column_reversed e.0 e.1

pub twins_alike : TwinsAlike
unfolding TwinsAlike
twins_alike w i j f c even hi hj h =
    column_twin w (well_formed_rack w f c) even (link_at w i) (link_at w j) (in_get_or w.links i (link 0 0) hi)
    (joins_ends (link_at w i).first (link_at w i).second (link_at w j) h)
