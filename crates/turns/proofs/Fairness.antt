-- A choice counts one turn, that of the caller whose frame it hands back; so over a run that starts level the turns of two callers never differ
-- by more than one. Assumes nothing.
use mathlib.Core.Path.{◌≡◌, refl, sym, ap, ◌∙◌}
use mathlib.Core.Logic.{◌⊎◌, inl, inr, ⊎_elim, ◌≢◌}
use mathlib.Core.List.{List, [], ◌∷◌}
use Prim.Native.Nat.{ℕ, suc, ◌≤◌}
use native.Mathlib.Omega.{arith}
use lib.ListN.{length, get_or, set, length-set}
use lib.Seq.{get_or-set_same, get_or-set_other}
use borrow.Author.Tests.{le-leb, lt-leb}
use denote.Ref.{Bor}
use Rattle.rack.specs.Limits.{most_callers}
use Rattle.rack.proofs.Logic.{by_bool, by_eq}
use Rattle.turns.specs.Turns.{frame_caller, first_goes, next_caller, ChoiceSays}
use Rattle.turns.specs.Promises.{ChoiceHandsBack, ChoiceRefusedKeeps, ChoiceCountsOne, Choice, BetweenCallers, Run, RunSoFar, TurnsFair}
use Rattle.turns.proofs.Turning.{next_first, next_second, next_fewest, next_low, choice_clear, turns_kept, turns_counted}

-- ONE CHOICE
module _ (f g : Bor (List ℕ)) (ts : List ℕ) (r : Bor (List ℕ)) (us : List ℕ) (x : ℕ) (s : ChoiceSays f g ts r us x) where
  abbrev next : ℕ
  next = next_caller f.now g.now ts

  kept : x ≢ 0 → us ≡ ts
  kept n = s.turns ∙ turns_kept f.now g.now ts (λ e. n (s.number ∙ e))

  module _ (z : x ≡ 0) where
    handed_back : ((r.now ≡ f.now) ⊎ (r.now ≡ g.now)) × (frame_caller r.now ≡ next)
    handed_back =
        by_bool (first_goes f.now g.now ts)
        (λ e. let b = (s.first z e).bytes in (inl b, ap frame_caller b ∙ sym (next_first f.now g.now ts e)))
        (λ e. let b = (s.second z e).bytes in (inr b, ap frame_caller b ∙ sym (next_second f.now g.now ts e)))

    counted : us ≡ set ts next (suc (get_or ts next 0))
    counted = s.turns ∙ turns_counted f.now g.now ts (sym s.number ∙ z)

  turns_long : length us ≡ length ts
  turns_long = by_eq x 0 (λ z. ap length (counted z) ∙ length-set ts next (suc (get_or ts next 0))) (λ n. ap length (kept n))

pub choice_hands_back : ChoiceHandsBack
unfolding ChoiceHandsBack first_goes
choice_hands_back f g ts r us x s z =
    let first = get_or ts (frame_caller f.now) 0 in
    let second = get_or ts (frame_caller g.now) 0 in
    ((λ h. s.first z (le-leb first second h)), (λ h. s.second z (lt-leb first second h)))

pub choice_refused_keeps : ChoiceRefusedKeeps
unfolding ChoiceRefusedKeeps
choice_refused_keeps f g ts r us x s n = ((s.none n).bytes, kept f g ts r us x s n)

pub choice_counts_one : ChoiceCountsOne
unfolding ChoiceCountsOne
choice_counts_one f g ts r us x s z long =
    let u = next_caller f.now g.now ts in
    let fewest = next_fewest f.now g.now ts in
    let low = next_low f.now g.now ts (choice_clear f.now g.now ts (sym s.number ∙ z)).fit in
    rw ((handed_back f g ts r us x s z).1, counted f g ts r us x s z) (
      (handed_back f g ts r us x s z).0,
      fewest.0,
      fewest.1,
      get_or-set_same ts u (suc (get_or ts u 0)) 0 (omega arith),
      (λ v n. get_or-set_other ts u v (suc (get_or ts u 0)) 0 n),
    )

-- RUNS: two callers whose turns differ by at most one
record Close (i j : ℕ) (ts : List ℕ) : Type 0 where
  ahead : get_or ts i 0 ≤ suc (get_or ts j 0)
  behind : get_or ts j 0 ≤ suc (get_or ts i 0)

close_sym : (i j : ℕ) (ts : List ℕ) → Close i j ts → Close j i ts
close_sym i j ts c = record { ahead = c.behind; behind = c.ahead }

-- a turn more for one that has had no more than the other
close_counted : (u v : ℕ) (ts us : List ℕ) → get_or ts u 0 ≤ get_or ts v 0 → get_or us u 0 ≡ suc (get_or ts u 0)
    → ((w : ℕ) → w ≢ u → get_or us w 0 ≡ get_or ts w 0) → Close u v ts → Close u v us
close_counted u v ts us fewer one others c =
    by_eq v u
    (λ same. rw same (record { ahead = omega arith; behind = omega arith }))
    (λ apart. record { ahead = omega (arith, others v apart, c.ahead); behind = omega (arith, others v apart, c.behind) })

close_chosen : (c : Choice) (ts us : List ℕ) → length ts ≡ most_callers → ChoiceSays c.first c.second ts c.part us c.number
    → c.number ≡ 0 → let i = frame_caller c.first.now in let j = frame_caller c.second.now in Close i j ts → Close i j us
unfolding ChoiceCountsOne
close_chosen c ts us long s z close =
    let i = frame_caller c.first.now in
    let j = frame_caller c.second.now in
    let u = frame_caller c.part.now in
    let one = choice_counts_one c.first c.second ts c.part us c.number s z long in
    ⊎_elim
    (λ e. rw e at (close_counted u j ts us one.2 one.3 one.4 (rw e close)))
    (λ e. close_sym j i us (rw e at (close_counted u i ts us one.1 one.3 one.4 (rw e (close_sym i j ts close)))))
    one.0

module _ (i j : ℕ) where
  close_step : (c : Choice) (ts us : List ℕ) → length ts ≡ most_callers → ChoiceSays c.first c.second ts c.part us c.number
      → (c.number ≡ 0 → BetweenCallers i j c) → Close i j ts → Close i j us
  close_step c ts us long s between close =
      by_eq c.number 0
      (λ z. chosen (close_chosen c ts us long s z) (between z))
      (λ n. rw (kept c.first c.second ts c.part us c.number s n) close)
    where
      p : ℕ
      p = frame_caller c.first.now

      q : ℕ
      q = frame_caller c.second.now

      chosen : (Close p q ts → Close p q us) → BetweenCallers i j c → Close i j us
      chosen step (inl (a, b)) = rw (a, b) at (step (rw (a, b) close))
      chosen step (inr (a, b)) = close_sym j i us (rw (a, b) at (step (rw (a, b) (close_sym i j ts close))))

  close_run : (cs : List Choice) (ts us : List ℕ) → length ts ≡ most_callers → Run i j cs ts us → Close i j ts → Close i j us
  close_run [] ts us long r close = rw r close
  close_run (c ∷ cs) ts us long (mid, s, between, r) close =
      close_run cs mid us (turns_long c.first c.second ts c.part mid c.number s ∙ long) r (close_step c ts mid long s between close)

pub run_so_far : RunSoFar
unfolding RunSoFar
run_so_far i j [] ds ts us r = (ts, refl, r)
run_so_far i j (c ∷ cs) ds ts us (next, s, between, r) =
    let (mid, before, after) = run_so_far i j cs ds next us r in
    (mid, (next, s, between, before), after)

pub turns_fair : TurnsFair
unfolding TurnsFair
turns_fair i j cs ts us long level r =
    let close = close_run i j cs ts us long r (record { ahead = omega arith; behind = omega arith }) in (close.ahead, close.behind)
