-- One card more is appended each turn, and 256 fill the bytes. Assumes nothing.
use mathlib.Core.Path.{◌≡◌, sym, ap, subst, ◌∙◌}
use mathlib.Core.List.{◌++◌}
use Prim.Native.Nat.{ℕ}
use native.Mathlib.Omega.{arith}
use lib.ListN.{length, get_or}
use Rattle.rack.specs.Buffers.{two_bytes}
use Rattle.rack.specs.Lists.{blocks}
use Rattle.rack.specs.Putting.{Grows}
use Rattle.rack.proofs.Appending.{written_full}
use Rattle.rack.proofs.Tables.{blocks_snoc}
use Rattle.rack.proofs.Putting.{grows_then, grows_as, grown_written}
use Rattle.jolvente.specs.Records.{card_bytes}
use Rattle.jolvente.proofs.RecordBytes.{length_first_cards, length_card_bytes}
use Rattle.jolvente.proofs.records.put_cards.Goals as goal

pub put_number-requires : goal.put_number-requires
put_number-requires c = omega (arith, length_first_cards c.loop-card.card-index c.args.cards.now)

pub loop-card-preserved : goal.loop-card-preserved
loop-card-preserved c =
    let l = c.loop-card in
    let f = λ (i : ℕ). two_bytes (get_or c.args.cards.now i 0) in
    grows_as (ap (λ (v : ℕ). blocks l.card-index f ++ two_bytes v) c.from.ensures ∙ sym (blocks_snoc l.card-index f))
    (grows_then l.invariant c.put_number.ensures)

pub returns : goal.returns
unfolding card_bytes
returns c =
    let l = c.loop-card in
    let new = c.new-written.ensures in
    let cards = c.args.cards.now in
    let e : l.card-index ≡ length cards = omega arith in
    let all = subst (λ (n : ℕ). Grows c.new-written.result l.written (blocks n (λ i. two_bytes (get_or cards i 0)))) e l.invariant in
    written_full _ (card_bytes cards) (omega (arith, length_card_bytes cards)) (grown_written new.start new.zeros all)
