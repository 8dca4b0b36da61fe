-- The promises of specs/Promises.antt, proved. Assumes nothing.
use mathlib.Core.Path.{◌≡◌, refl, ap₂, ◌∙◌}
use mathlib.Core.Bool.{true}
use mathlib.Core.List.{List}
use Prim.Native.Nat.{ℕ, ◌<◌}
use native.Mathlib.Omega.{arith}
use lib.ListN.{set}
use lib.Seq.{get_or-set_same, get_or-set_other, set-get_or}
use Rattle.rack.proofs.Logic.{by_eq, by_lt}
use Rattle.reader.specs.Plan.{layout_holds}
use Rattle.reader.specs.Reading.{layout_refusal}
use Rattle.reader.proofs.Reading.{layout_clear, layout_refusal_within}
use Rattle.traffic.specs.Traffic.{caller_refusal, tally_of, with_tally, raised}
use Rattle.traffic.specs.Promises.{CallerRefused, OthersKept, CallerCounted, NoneCounted}
use Rattle.traffic.proofs.CallerRefusal.{no_plan, no_caller, caller_passes}

pub caller_refused : CallerRefused
unfolding CallerRefused layout_refusal
caller_refused ps u = (over, λ (l, h). no_caller ps u (rw l refl) (omega arith))
  where
    over : caller_refusal ps u ≡ 18 → (layout_holds ps ≡ true) × (15 < u)
    over e =
        by_eq (layout_refusal ps) 0
        (λ z. (layout_clear ps z, by_lt 15 u (λ h. h) (λ h. absurd (omega (arith, e, caller_passes ps u z (omega arith))))))
        (λ n. absurd (omega (arith, e, no_plan ps u n, layout_refusal_within ps)))

pub others_kept : OthersKept
unfolding OthersKept raised with_tally
others_kept t u o h v n = (get_or-set_other t.frames u v _ 0 n, get_or-set_other t.hops u v _ 0 n, refl)

pub caller_counted : CallerCounted
unfolding CallerCounted raised with_tally tally_of
caller_counted t u h l k =
    (get_or-set_same t.frames u _ 0 l ∙ omega arith, get_or-set_same t.hops u _ 0 k ∙ omega arith)

pub none_counted : NoneCounted
unfolding NoneCounted raised with_tally tally_of
none_counted t u h =
    ap₂ (λ (x y : List ℕ). record { frames = x; hops = y; turns = t.turns })
    (ap₂ (set t.frames) refl (omega arith) ∙ set-get_or t.frames u 0) (ap₂ (set t.hops) refl (omega arith) ∙ set-get_or t.hops u 0)
