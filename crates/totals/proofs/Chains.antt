-- A chain is one card, and each further card on a last link: so a chain of n + 1 cards is accepted, and its sum of hops is a sixth of
-- n (n + 1) (n + 2). Assumes nothing.
use mathlib.Core.Path.{◌≡◌, refl, sym, ap, ◌∙◌, subst}
use mathlib.Core.List.{[], ◌∷◌, ◌++◌}
use Prim.Native.Nat.{ℕ, zero, suc, ◌+◌, ◌*◌, ◌-◌}
use native.Mathlib.Omega.{arith}
use Rattle.rack.specs.Lists.{sum, tabulate}
use Rattle.rack.specs.Wiring.{Link, link, wiring}
use Rattle.rack.specs.Hops.{has_path, hops, unreached, connected}
use Rattle.rack.specs.Columns.{add_columns, columns, column_count, hamming, embeds}
use Rattle.rack.specs.Refusals.{or_else, lowest_fault, links_refusal, reach_refusal, parity_refusal, embedding_refusal, rack_refusal, wiring_refusal}
use Rattle.rack.proofs.Tables.{tabulate_snoc}
use Rattle.rack.proofs.Hops.{hops_self}
use Rattle.rack.proofs.Crossing.{Rack}
use Rattle.rack.proofs.Accepted.{wiring_accepted}
use Rattle.pendant.specs.Pendant.{with_card}
use Rattle.pendant.proofs.Hops.{Pendant}
use Rattle.pendant.proofs.Acceptance.{accepted_added}
use Rattle.pendant.proofs.Hanging.{pendant_added}
use Rattle.totals.specs.Totals.{hops_to, total_hops, chain}
use Rattle.totals.proofs.Totals.{total_pairs, hops_to_last, total_last}

abbrev next : (i : ℕ) → Link
next i = link i (suc i)

chain_more : (n : ℕ) → with_card (chain (suc n)) n ≡ chain (suc (suc n))
unfolding chain with_card
chain_more n =
    let e : suc n - 1 ≡ n = omega arith in
    let f : n + 1 ≡ suc (suc n) - 1 = omega arith in
    ap (wiring (suc (suc n)))
    (ap (λ (m : ℕ). tabulate m next ++ (next n ∷ [])) e ∙ sym (tabulate_snoc n next) ∙ ap (λ (m : ℕ). tabulate m next) f)

-- ACCEPTED
one_card : (wiring_refusal (chain 1)).number ≡ 0
unfolding chain wiring_refusal links_refusal rack_refusal reach_refusal parity_refusal embedding_refusal or_else lowest_fault
    connected unreached hops has_path embeds hamming column_count columns add_columns
one_card = refl

chain_rack : (n : ℕ) → (wiring_refusal (chain (suc n))).number ≡ 0 → Rack (chain (suc n))
unfolding chain
chain_rack n h = (wiring_accepted (chain (suc n)) (omega arith) h).rack

chain_pendant : (n : ℕ) → Rack (chain (suc n)) → Pendant (chain (suc n)) n (chain (suc (suc n)))
unfolding chain
chain_pendant n rack = subst (Pendant (chain (suc n)) n) (chain_more n) (pendant_added (chain (suc n)) n rack (omega arith))

pub chain_accepted : (n : ℕ) → (wiring_refusal (chain (suc n))).number ≡ 0
chain_accepted zero = one_card
chain_accepted (suc n) = let h = chain_accepted n in accepted_added (chain_pendant n (chain_rack n h)) h

-- ITS HOPS: those of the end card, and of all pairs
module _ (n : ℕ) where
  abbrev rack : Rack (chain (suc n))
  rack = chain_rack n (chain_accepted n)

  abbrev pendant : Pendant (chain (suc n)) n (chain (suc (suc n)))
  pendant = chain_pendant n rack

  end_more : hops_to (chain (suc (suc n))) (suc (suc n)) (suc n) ≡ suc n + hops_to (chain (suc n)) (suc n) n
  unfolding chain
  end_more = hops_to_last pendant rack.whole

  total_more : total_hops (chain (suc (suc n))) ≡ total_hops (chain (suc n)) + hops_to (chain (suc (suc n))) (suc (suc n)) (suc n)
  unfolding chain
  total_more = total_last pendant rack.whole

end_hops : (n : ℕ) → 2 * hops_to (chain (suc n)) (suc n) n ≡ n * (n + 1)
unfolding hops_to sum
end_hops zero = omega (arith, hops_self (chain 1) 0)
end_hops (suc n) = omega (arith, end_more n, end_hops n)

pub chain_hops : (n : ℕ) → 6 * total_hops (chain (suc n)) ≡ n * (n + 1) * (n + 2)
unfolding chain sum
chain_hops zero = omega (arith, total_pairs (chain 1))
chain_hops (suc n) = omega (arith, total_more n, end_hops (suc n), chain_hops n)
