-- Every row of the tests of a plan by itself holds, by one computed test. Assumes nothing.
use mathlib.Core.Path.{◌≡◌, refl}
use mathlib.Core.Bool.{true}
use Rattle.rack.specs.Lists.{all}
use Rattle.rack.specs.Bits.{number_bit, bits_value}
use Rattle.rack.specs.Wiring.{joins, linked, neighbours, touches, other_end}
use Rattle.rack.specs.Hops.{has_path, hops, unreached, connected}
use Rattle.rack.specs.Columns.{nearer_first, side, column, same_column, add_column, add_columns, columns, column_count, address, hamming, embeds}
use Rattle.rack.specs.Refusals.{or_else, lowest_fault, link_fault, links_refusal, reach_refusal, parity_refusal, embedding_refusal, rack_refusal, wiring_refusal}
use Rattle.rack.specs.Buffers.{number_at, two_bytes}
use Rattle.rack.specs.WiringFile.{wiring_at, end_bytes}
use Rattle.rack.specs.PlanFile.{bit_from, plan_bit, plan_hamming, address_size}
use Rattle.rack.proofs.Lists.{In, all_in}
use Rattle.planner.specs.PlanBytes.{address_bytes, plan_bytes}
use Rattle.plan_tests.specs.Tests.{lowest_apart, crossed, columns_in_order, leads, cards_covered, first_zero, spare_zero}
use Rattle.reader.specs.Plan.{layout_holds, content_holds, plan_refusal}
use Rattle.forwarder.specs.Forwarding.{leads_nearer, step}
use Rattle.promises.specs.Claims.{hex_digit, hex_bytes, hex, claim_holds}
use Rattle.promises.specs.Cases.{ring_of_four, ring_plan, doubled_plan}
use Rattle.promises.specs.TestCases.{TestCase, first_failing, test_case_holds, test_cases}

all_tests_hold : all test_case_holds test_cases ≡ true
unfolding test_cases test_case_holds first_failing claim_holds ring_of_four ring_plan doubled_plan hex hex_bytes hex_digit
    lowest_apart crossed columns_in_order leads cards_covered first_zero spare_zero
    number_bit bits_value joins linked neighbours touches other_end has_path hops unreached connected
    nearer_first side column same_column add_column add_columns columns column_count address hamming embeds
    or_else lowest_fault link_fault links_refusal reach_refusal parity_refusal embedding_refusal rack_refusal wiring_refusal
    number_at two_bytes wiring_at end_bytes address_size address_bytes plan_bytes
    layout_holds content_holds plan_refusal bit_from plan_bit plan_hamming leads_nearer step
all_tests_hold = refl

pub each_test_holds : (k : TestCase) → In k test_cases → test_case_holds k ≡ true
each_test_holds k m = all_in test_case_holds test_cases all_tests_hold k m
