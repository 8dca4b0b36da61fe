-- Wiring files: their bytes, the wiring inside, refusals 2 to 5. Assumes nothing: these are definitions.
use Rattle.std.specs.Prelude.{◌&&◌, not, cond, List, ◌++◌, ℕ, ◌+◌, ◌*◌, ltb, leb, eqb, length}
use Rattle.rack.specs.Lists.{tabulate, blocks}
use Rattle.rack.specs.Limits.{most_cards, most_links}
use Rattle.rack.specs.Buffers.{number_at, two_bytes}
use Rattle.rack.specs.Wiring.{Wiring, link, wiring, link_count, link_at}
use Rattle.rack.specs.Refusals.{Refusal, refusal, or_else, links_refusal, rack_refusal}

-- card count, link count, and from `base` on the first ends, then the second ends
unfoldable pub wiring_at : (base : ℕ) → List ℕ → Wiring
wiring_at base bs =
    let m = number_at bs 2 in
    wiring (number_at bs 0) (tabulate m (λ i. link (number_at bs (base + 2 * i)) (number_at bs (base + 2 * m + 2 * i))))

abbrev pub file_wiring : List ℕ → Wiring
file_wiring bs = wiring_at 4 bs

-- 2 to 5
unfoldable pub sizes_fault : List ℕ → ℕ
sizes_fault bs =
    let n = number_at bs 0 in
    let m = number_at bs 2 in
    cond (ltb (length bs) 4) 2
    (cond (not (leb 1 n && leb n most_cards)) 3
    (cond (ltb most_links m) 4
    (cond (not (eqb (length bs) (4 + 4 * m))) 5 0)))

-- 2 to 8: a file without them is well formed
unfoldable pub form_refusal : List ℕ → Refusal
form_refusal bs = or_else (refusal (sizes_fault bs) 0) (links_refusal (file_wiring bs))

-- 2 to 11: a file without them is accepted
unfoldable pub file_refusal : List ℕ → Refusal
file_refusal bs = or_else (form_refusal bs) (rack_refusal (file_wiring bs))

-- the first ends, then the second ends
unfoldable pub end_bytes : Wiring → List ℕ
end_bytes w =
    blocks (link_count w) (λ i. two_bytes (link_at w i).first) ++ blocks (link_count w) (λ i. two_bytes (link_at w i).second)

-- the wiring file of a wiring
unfoldable pub file_bytes : Wiring → List ℕ
file_bytes w = two_bytes w.cards ++ two_bytes (link_count w) ++ end_bytes w
