-- Demand 3 of the C walk, from what it says: what C reads back is the arrival by the fewest links, or all is as it was. Assumes nothing.
use mathlib.Core.Path.{◌≡◌, refl, sym, ap, ap₂, subst, ◌∙◌}
use mathlib.Core.Bool.{true, ◌&&◌, cond}
use mathlib.Core.List.{List, [], ◌∷◌, ◌++◌}
use Prim.Native.Nat.{ℕ, zero, suc, ◌+◌, ◌*◌, ◌-◌, ◌<◌}
use native.Mathlib.Omega.{arith}
use lib.Dec.{ltb, eqb}
use lib.ListN.{length, get_or, replicate, length-append, length-replicate}
use borrow.Author.Tests.{eq-eqb, ne_eqb, ltb-true}
use Rattle.rack.specs.Wiring.{Wiring, linked}
use Rattle.rack.specs.Hops.{hops, is_path}
use Rattle.rack.specs.PlanFile.{plan_wiring}
use Rattle.rack.proofs.Logic.{and_left, and_right}
use Rattle.rack.proofs.WiringFile.{wiring_at_cards}
use Rattle.rack.proofs.Zeros.{zeros_at}
use Rattle.reader.specs.Reading.{layout_refusal}
use Rattle.reader.proofs.Plan.{layout_facts}
use Rattle.reader.proofs.Promises.{read_measured}
use Rattle.forwarder.specs.Forwarding.{Walk, walk}
use Rattle.forwarder.specs.Calls.{lent_met, walk_hops, walk_refusal, WalkSays, Frame, Arrived, CanTake}
use Rattle.forwarder.specs.declared.walk.Tally.{Tally}
use Rattle.forwarder.specs.Calls.{Walked}
use Rattle.forwarder.proofs.Arrival.{walk_arrived, walk_full}
use Rattle.traffic.specs.Traffic.{caller_refusal}
use Rattle.traffic.proofs.CallerRefusal.{caller_passes}
use Rattle.jolvente.specs.Records.{lent_record, lent_met_bytes, record_bytes, cards_in, counts_in, walked_in}
use Rattle.jolvente.specs.CCalls.{c_walk_refusal, met_bytes, walk_record, CWalkSays, CFrame, CFull}
use Rattle.jolvente.proofs.RecordBytes.{Reads, record_reads, cards_read}

-- THE CARDS MET fit 16 bits
path_below : (w : Wiring) (cs : List ℕ) (a b : ℕ) → a < w.cards → is_path w a cs b ≡ true → (i : ℕ) → get_or (a ∷ cs) i 0 < w.cards
unfolding is_path
path_below w cs a b h p zero = h
path_below w [] a b h p (suc i) = omega arith
path_below w (c ∷ cs) a b h p (suc i) =
    let here = ltb c w.cards && linked w a c in
    path_below w cs c b (ltb-true c w.cards (and_left (ltb c w.cards) (linked w a c) (and_left here (is_path w c cs b) p)))
    (and_right here (is_path w c cs b) p) i

padded_below : (n : ℕ) (xs : List ℕ) (k : ℕ) → 0 < n → ((i : ℕ) → get_or xs i 0 < n) → (i : ℕ) → get_or (xs ++ replicate k 0) i 0 < n
padded_below n [] k h small i = omega (arith, zeros_at k (replicate k 0) refl i)
padded_below n (x ∷ xs) k h small zero = small 0
padded_below n (x ∷ xs) k h small (suc i) = padded_below n xs k h (λ j. small (suc j)) i

module _ (ps : List ℕ) (a b u r : ℕ) (met met_now rec rec_now : List ℕ) (s : CWalkSays ps a b u r met met_now rec rec_now) (f : CFrame ps a b u met rec)
    (old : List ℕ) (many : length old ≡ lent_met) where
  abbrev t : Tally
  t = counts_in rec

  abbrev v : Walk
  v = walk ps a b

  abbrev fewest : ℕ
  fewest = hops (plan_wiring ps) a b

  -- the answer of a walk by the same numbers, and what it leaves in the numbers that it is lent
  abbrev answer : Walked
  answer =
      let arrived = cond (eqb r 0) v.arrived 0 in
      let walked = cond (eqb r 0) (walk_hops v) 0 in
      record { number = r; arrived = arrived; hops = walked; tally = record { frames = t.frames + arrived; hops = t.hops + arrived * walked } }

  abbrev cards : List ℕ
  cards = v.met ++ replicate (lent_met - length v.met) 0

  abbrev left : List ℕ
  left = cond (eqb r 0) cards old

  called : caller_refusal ps u ≡ 0
  unfolding layout_refusal
  called = caller_passes ps u (rw (read_measured ps f.read).layout refl) f.caller

  answer_says : WalkSays ps a b t answer old left
  unfolding c_walk_refusal
  answer_says =
      record {
        number =
            s.answer
            ∙ rw (eq-eqb (length met) lent_met_bytes f.room, eq-eqb (length rec) lent_record f.record_room, eq-eqb (caller_refusal ps u) 0 called) refl
            ∙ ap (walk_refusal ps a b t) (sym many);
        arrived = refl;
        hops = refl;
        frames = refl;
        total = refl;
        met = refl;
      }

  frame : Frame ps a b old
  frame = record { read = f.read; from = f.from; goal = f.goal; room = many }

  c_full : (CanTake t fewest → ⊥) → CFull r met met_now rec rec_now
  c_full never =
      let g = walk_full ps a b t answer old left answer_says frame never in
      let e = ne_eqb r 0 (λ z. omega (arith, g.number)) in
      record { answer = g.number; met_left = s.met_left ∙ rw e refl; record_left = s.record_left ∙ rw e refl }

  few : fewest < 256
  few = let m = read_measured ps f.read in omega (arith, m.reached a b f.from f.goal, (layout_facts ps m.layout).few)

  module _ (take : CanTake t fewest) where
    g : Arrived ps a b t answer left
    g = walk_arrived ps a b t answer old left answer_says frame take

    e : eqb r 0 ≡ true
    e = eq-eqb r 0 g.number

    reads : Reads rec_now 1 fewest (suc t.frames) (t.hops + fewest)
    unfolding walk_record
    reads =
        let one : v.arrived ≡ 1 = rw e at g.arrived in
        let walked : walk_hops v ≡ fewest = rw e at g.fewest in
        let total : t.hops + v.arrived * walk_hops v ≡ t.hops + fewest = ap₂ (λ (x y : ℕ). t.hops + x * y) one walked ∙ omega arith in
        let frames : t.frames + v.arrived ≡ suc t.frames = omega arith in
        let is : rec_now ≡ record_bytes 1 fewest (suc t.frames) (t.hops + fewest) = s.record_left ∙ rw e (cc (one, walked, frames, total)) in
        subst (λ (x : List ℕ). Reads x 1 fewest (suc t.frames) (t.hops + fewest)) (sym is)
        (record_reads 1 fewest (suc t.frames) (t.hops + fewest) (omega arith) (omega (arith, few)) (omega (arith, take.0)) (omega (arith, take.1)))

    cards_are : cards ≡ a ∷ g.behind ++ replicate (lent_met - suc fewest) 0
    cards_are = rw e at g.met

    card_below : (i : ℕ) → i < lent_met → get_or cards i 0 < 65536
    card_below i h =
        let m = read_measured ps f.read in
        let below = padded_below (plan_wiring ps).cards (a ∷ g.behind) (lent_met - suc fewest) (omega (arith, wiring_at_cards 6 ps, f.from))
        (path_below (plan_wiring ps) g.behind a b (omega (arith, wiring_at_cards 6 ps, f.from)) g.path) i
        in
        rw cards_are (omega (arith, below, wiring_at_cards 6 ps, (layout_facts ps m.layout).few))

    cards_long : length cards ≡ lent_met
    cards_long = ap length cards_are ∙ omega (arith, few, g.long, length-append g.behind (replicate (lent_met - suc fewest) 0), length-replicate {A = ℕ} (lent_met - suc fewest) 0)

    c_arrived : Arrived ps a b t (walked_in r rec_now) (cards_in met_now)
    unfolding walked_in counts_in met_bytes
    c_arrived =
        record {
          number = g.number;
          arrived = reads.first;
          fewest = reads.second;
          frames = reads.third;
          total = reads.fourth;
          behind = g.behind;
          met = ap cards_in (s.met_left ∙ rw e refl) ∙ cards_read cards cards_long card_below ∙ cards_are;
          path = g.path;
          long = g.long;
        }

-- what the C walk says, with what follows of it for a frame
module _ (ps : List ℕ) (a b u r : ℕ) (met met_now rec rec_now : List ℕ) (s : CWalkSays ps a b u r met met_now rec rec_now) where
  pub arrives : CFrame ps a b u met rec → CanTake (counts_in rec) (hops (plan_wiring ps) a b)
      → Arrived ps a b (counts_in rec) (walked_in r rec_now) (cards_in met_now)
  arrives f take = c_arrived ps a b u r met met_now rec rec_now s f (replicate lent_met 0) (length-replicate {A = ℕ} lent_met 0) take

  pub full : CFrame ps a b u met rec → (CanTake (counts_in rec) (hops (plan_wiring ps) a b) → ⊥) → CFull r met met_now rec rec_now
  full f never = c_full ps a b u r met met_now rec rec_now s f (replicate lent_met 0) (length-replicate {A = ℕ} lent_met 0) never

  pub with_c_arrival :
      record {
        says : CWalkSays ps a b u r met met_now rec rec_now;
        arrives : CFrame ps a b u met rec → CanTake (counts_in rec) (hops (plan_wiring ps) a b) → Arrived ps a b (counts_in rec) (walked_in r rec_now) (cards_in met_now);
        full : CFrame ps a b u met rec → (CanTake (counts_in rec) (hops (plan_wiring ps) a b) → ⊥) → CFull r met met_now rec rec_now;
      }
  with_c_arrival = record { says = s; arrives = arrives; full = full }
