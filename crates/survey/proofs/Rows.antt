-- Lowering a row of bounds by another, place by place; a lowered row still bounds hops. Assumes nothing.
use mathlib.Core.Path.{◌≡◌, ap, sym, subst, ◌∙◌}
use mathlib.Core.Logic.{◌≢◌}
use mathlib.Core.List.{List, [], ◌∷◌}
use Prim.Native.Nat.{ℕ, zero, suc, ◌+◌, ◌*◌, ◌-◌, ◌≤◌, ◌<◌, min, max}
use native.Mathlib.Omega.{arith}
use lib.ListN.{length, get_or, set, length-set}
use lib.Seq.{get_or-set_same, get_or-set_other, set-get_or}
use Rattle.rack.specs.Lists.{sum}
use Rattle.rack.specs.Limits.{lent_hops}
use Rattle.rack.specs.Wiring.{Wiring}
use Rattle.rack.specs.Hops.{hops}
use Rattle.rack.proofs.Logic.{by_eq, by_lt}
use Rattle.survey.specs.Tables.{cell}
use Rattle.survey.specs.Lowering.{Lowered, Above}

sum_set : (l : List ℕ) (i v : ℕ) → i < length l → sum (set l i v) + get_or l i 0 ≡ sum l + v
unfolding sum
sum_set [] i v h = omega arith
sum_set (x ∷ l) zero v h = omega arith
sum_set (x ∷ l) (suc i) v h = omega (arith, sum_set l i v (omega arith))

-- one place more, lowered to z
module _ (old new : List ℕ) (to by b off z off' : ℕ) (p : Lowered old new to by b off) (hb : b < 256) (long : length old ≡ lent_hops) (ht : to < 256)
    (ez : z ≡ min (cell new to b) (cell new by b + 1)) (eo : off' ≡ max off (cell new to b - z)) where
  by_unchanged : cell new by b ≡ cell old by b
  by_unchanged = by_lt by to (λ l. p.before (256 * by + b) (omega arith)) (λ l. p.after (256 * by + b) (omega arith))

  lower_more : (c : ℕ) → c < b + 1 → cell (set new (256 * to + b) z) to c ≡ min (cell old to c) (cell old by c + 1)
  lower_more c hc =
      by_eq c b
      (λ (e : c ≡ b). rw e (get_or-set_same new (256 * to + b) z 0 (omega (arith, p.long)) ∙ ez ∙ cc (by_unchanged, p.after (256 * to + b) (omega arith))))
      (λ ne. get_or-set_other new (256 * to + b) (256 * to + c) z 0 (omega arith) ∙ p.lower c (omega arith))

  still_more : off' ≡ 0 → set new (256 * to + b) z ≡ old
  still_more o = let e : z ≡ cell new to b = omega arith in rw (e, set-get_or) (p.still (omega arith))

  pub lowered_more : Lowered old (set new (256 * to + b) z) to by (b + 1) off'
  lowered_more =
      record {
        long = length-set new (256 * to + b) z ∙ p.long;
        lower = lower_more;
        before = λ i l. get_or-set_other new (256 * to + b) i z 0 (omega arith) ∙ p.before i l;
        after = λ i l. get_or-set_other new (256 * to + b) i z 0 (omega arith) ∙ p.after i (omega arith);
        taken = omega (arith, p.taken, sum_set new (256 * to + b) z (omega (arith, p.long)));
        still = still_more;
      }

-- a whole row, whose card has at most one hop more than the other's to any card
module _ (w : Wiring) (old new : List ℕ) (to by off : ℕ) (few : w.cards ≤ 256) (a : Above w old) (p : Lowered old new to by 256 off)
    (ht : to < w.cards) (hb : by < w.cards) (step : (c : ℕ) → hops w to c ≤ hops w by c + 1) where
  other_row : (c d : ℕ) → d < 256 → c ≢ to → cell new c d ≡ cell old c d
  other_row c d l ne = by_lt c to (λ k. p.before (256 * c + d) (omega arith)) (λ k. p.after (256 * c + d) (omega arith))

  -- what holds of the old bound, and of the lowered one in row `to`, holds of the new bound
  by_row : (P : ℕ → Type 0) (c d : ℕ) → d < 256 → P (cell old c d) → (c ≡ to → P (min (cell old to d) (cell old by d + 1))) → P (cell new c d)
  by_row P c d l other low =
      by_eq c to
      (λ e. subst P (sym (p.lower d l) ∙ ap (λ (x : ℕ). cell new x d) (sym e)) (low e))
      (λ ne. subst P (sym (other_row c d l ne)) other)

  pub lowered_above : Above w new
  lowered_above =
      record {
        long = p.long ∙ a.long;
        over = λ c d hc hd. by_row (λ x. hops w c d ≤ x) c d (omega arith) (a.over c d hc hd)
            (λ (e : c ≡ to). rw e (omega (arith, step d, a.over to d ht hd, a.over by d hb hd)));
        most = λ c d hc hd. by_row (λ x. x ≤ w.cards) c d (omega arith) (a.most c d hc hd) (λ e. omega (arith, a.most to d ht hd));
        self = λ c hc. by_row (λ x. x ≡ 0) c c (omega arith) (a.self c hc) (λ e. omega (arith, a.self to ht, ap (λ (x : ℕ). cell old to x) e));
        rows = λ c d hd hc. by_row (λ x. x ≡ 0) c d hd (a.rows c d hd hc) (λ e. absurd (omega arith));
        places = λ c d hd hc. by_row (λ x. x ≡ 0) c d hd (a.places c d hd hc) (λ e. omega (arith, a.places to d hd hc));
      }
