-- The promises of specs/Promises.antt, proved. Assumes nothing.
use mathlib.Core.Path.{◌∙◌, ap₂, sym}
use Prim.Native.Nat.{◌+◌, ◌/◌, ◌%◌}
use native.Mathlib.Omega.{arith}
use lib.ListN.{get_or}
use Rattle.rack.specs.PlanFile.{bit_from}
use Rattle.counting.specs.Promises.{TableRule, HammingByTable, BitsByTable}
use Rattle.counting.proofs.TableRule.{holds_counts, counts_holds}
use Rattle.counting.proofs.Bytes.{hamming_parts, hamming_table, low_entry}

pub table_rule : TableRule
unfolding TableRule
table_rule table = (holds_counts table, counts_holds table)

pub hamming_by_table : HammingByTable
unfolding HammingByTable
hamming_by_table table n x y c h = hamming_table table c n x y h

pub bits_by_table : BitsByTable
unfolding BitsByTable bit_from
bits_by_table table bytes p q k c h =
    hamming_parts bytes bytes p q k
    ∙ ap₂ ◌+◌ (hamming_table table c (k / 8) (λ t. get_or bytes (p + t) 0) (λ t. get_or bytes (q + t) 0) (λ t l. (h (p + t), h (q + t))))
    (sym (low_entry table c (get_or bytes (p + k / 8) 0) (get_or bytes (q + k / 8) 0) (k % 8) (h (p + k / 8)) (h (q + k / 8)) (omega arith)))
