-- All promises, each proved: what a reader looks for first. Here those of racks, of planning, reading and forwarding, of twin cables, of the C calls
-- and of the listing; those of the other calls on a plan stand in PlanCalls.antt and OpenedPlans.antt. Assumes nothing.
use Rattle.rack.specs.Promises.{HopsFewest, ConnectedPaths, NoTies, CardZeroZeros, AddressesEmbed, NoAddresses}
use Rattle.rack.specs.Promises.{EmbeddingUnique, ChoicesAsRows, ColumnsOnce, FewColumns, SizesInRange, LinksJoin, OddLoop, FileAsWiring}
use Rattle.rack.proofs.Promises as rack
use Rattle.counting.specs.Promises.{TableRule, HammingByTable, BitsByTable}
use Rattle.counting.proofs.Promises as counting
use Rattle.planner.specs.Promises.{PlanningFinds, WritingFinds}
use Rattle.planner.proofs.Promises as planner
use Rattle.tested_plans.specs.Promises.{TestsExactly}
use Rattle.tested_plans.proofs.Promises as tested_plans
use Rattle.reader.specs.Promises.{ReadExactly, CallsAgree, LayoutInRange, AddressFits, LargestPlan, ReaderPromise, HopsByTable}
use Rattle.reader.specs.Promises.{AddressWhole, RefusedAddressEmpty, NoSuchCard}
use Rattle.reader.proofs.Promises as reader
use Rattle.forwarder.specs.Promises.{StepFirst, StepLocal, StepCallLocal, WalkEnds, FrameArrives, WalkArrives, WalkFull, StuckUncounted}
use Rattle.forwarder.proofs.Promises as forwarder
use Rattle.twins.specs.Promises.{ThirdRefused, TwoMayJoin, TwinsAlike, TwinsKeepHops, TwinsKeepNumber, TwinsKeepColumns}
use Rattle.twins.specs.Promises.{TwinsBehind, StepLowest, StepAnswerLowest, WalkLowest, DoubledStays, DoubledRefused, AddedSingle}
use Rattle.twins.proofs.Promises as twins
use Rattle.text.specs.Promises.{DecimalValue, DecimalFirst, DecimalDigits}
use Rattle.text.proofs.Promises as text
use Rattle.listing_text.specs.Promises.{ListingFits}
use Rattle.listing_text.proofs.Promises as listing
use Rattle.jolvente.specs.Promises.{CWritingFinds, CReadingMeasures, CWalkArrives, CWalkFull, CCallerRefused}
use Rattle.jolvente.proofs.Promises as c_calls

-- hops are the fewest links
pub hops_fewest : HopsFewest
hops_fewest = rack.hops_fewest

-- connected means that a path leads from each card to each
pub connected_paths : ConnectedPaths
connected_paths = rack.connected_paths

-- a link splits the cards: none is at equal distance from its ends
pub no_ties : NoTies
no_ties = rack.no_ties

-- card 0 has the address of zeros
pub card_zero_zeros : CardZeroZeros
card_zero_zeros = rack.card_zero_zeros

-- the addresses of an accepted rack measure hops
pub addresses_embed : AddressesEmbed
addresses_embed = rack.addresses_embed

-- "no addresses" is said exactly when there are none
pub no_addresses : NoAddresses
no_addresses = rack.no_addresses

-- every embedding has the planner's columns
pub embedding_unique : EmbeddingUnique
embedding_unique = rack.embedding_unique

-- lists of rows and embeddings are the same choices
pub choices_as_rows : ChoicesAsRows
choices_as_rows = rack.choices_as_rows

-- each column occurs once
pub columns_once : ColumnsOnce
columns_once = rack.columns_once

-- an accepted rack has fewer columns than cards
pub few_columns : FewColumns
few_columns = rack.few_columns

-- 2 to 5 by the ranges of the sizes
pub sizes_in_range : SizesInRange
sizes_in_range = rack.sizes_in_range

-- 6 to 8 by the links
pub links_join : LinksJoin
links_join = rack.links_join

-- 10 by a link with level ends
pub odd_loop : OddLoop
odd_loop = rack.odd_loop

-- a well-formed file stands for its wiring
pub file_as_wiring : FileAsWiring
file_as_wiring = rack.file_as_wiring

-- the table of the ones in each byte: one test of all entries gives its rule
pub table_rule : TableRule
table_rule = counting.table_rule

-- differing places are its entries at the exclusive or of the bytes, added up
pub hamming_by_table : HammingByTable
hamming_by_table = counting.hamming_by_table

-- and of k columns, the last byte's spare bits left out
pub bits_by_table : BitsByTable
bits_by_table = counting.bits_by_table

-- planning and plan writing find the addresses, or there are none
pub planning_finds : PlanningFinds
planning_finds = planner.planning_finds

pub writing_finds : WritingFinds
writing_finds = planner.writing_finds

-- a plan is read exactly if the planner writes it
pub read_exactly : ReadExactly
read_exactly = reader.read_exactly

-- and exactly if it passes the tests by itself
pub tests_exactly : TestsExactly
tests_exactly = tested_plans.tests_exactly

-- the same of what the two calls answer and leave
pub calls_agree : CallsAgree
calls_agree = reader.calls_agree

-- 12 by the ranges of the sizes
pub layout_in_range : LayoutInRange
layout_in_range = reader.layout_in_range

-- an address has as few bytes as hold its bits
pub address_fits : AddressFits
address_fits = reader.address_fits

-- the largest plan has the length of the lent buffer
pub largest_plan : LargestPlan
largest_plan = reader.largest_plan

-- what the forwarder may lean on
pub reader_promise : ReaderPromise
reader_promise = reader.reader_promise

-- the hops between two cards are the table's entries over all bytes of their addresses
pub hops_by_table : HopsByTable
hops_by_table = reader.hops_by_table

-- an address that is handed out has all its bits, and zeros behind them
pub address_whole : AddressWhole
address_whole = reader.address_whole

-- a refused address is empty, and 14 is said of a plan that was read
pub refused_address_empty : RefusedAddressEmpty
refused_address_empty = reader.refused_address_empty

pub no_such_card : NoSuchCard
no_such_card = reader.no_such_card

-- a step takes the first link that leads nearer
pub step_first : StepFirst
step_first = forwarder.step_first

-- a step depends on its cards, the first card's links and their addresses
pub step_local : StepLocal
step_local = forwarder.step_local

-- so does the call's answer
pub step_call_local : StepCallLocal
step_call_local = forwarder.step_call_local

-- a walk ends by itself
pub walk_ends : WalkEnds
walk_ends = forwarder.walk_ends

-- every frame on a plan that was read arrives by the fewest links
pub frame_arrives : FrameArrives
frame_arrives = forwarder.frame_arrives

-- the same of what the call answers and leaves, and 15 where a count can't take it
pub walk_arrives : WalkArrives
walk_arrives = forwarder.walk_arrives

pub walk_full : WalkFull
walk_full = forwarder.walk_full

-- a stuck walk is not counted, and never 15
pub stuck_uncounted : StuckUncounted
stuck_uncounted = forwarder.stuck_uncounted

-- 8 is a third link between two cards, and carries the third; so at most two join them
pub third_refused : ThirdRefused
third_refused = twins.third_refused

pub two_may_join : TwoMayJoin
two_may_join = twins.two_may_join

-- twins share a column
pub twins_alike : TwinsAlike
twins_alike = twins.twins_alike

-- with twins and without, a rack has the same hops, the same number from 9 to 11, and the same columns where it is accepted
pub twins_keep_hops : TwinsKeepHops
twins_keep_hops = twins.twins_keep_hops

pub twins_keep_number : TwinsKeepNumber
twins_keep_number = twins.twins_keep_number

pub twins_keep_columns : TwinsKeepColumns
twins_keep_columns = twins.twins_keep_columns

-- and twins behind all other links leave every address as it was
pub twins_behind : TwinsBehind
twins_behind = twins.twins_behind

-- a step takes the lower of two, in its definition and in the call's answer, and so does each step of a walk
pub step_lowest : StepLowest
step_lowest = twins.step_lowest

pub step_answer_lowest : StepAnswerLowest
step_answer_lowest = twins.step_answer_lowest

pub walk_lowest : WalkLowest
walk_lowest = twins.walk_lowest

-- a last card on two links stays, with 17 from the call, and a card added is on one
pub doubled_stays : DoubledStays
doubled_stays = twins.doubled_stays

pub doubled_refused : DoubledRefused
doubled_refused = twins.doubled_refused

pub added_single : AddedSingle
added_single = twins.added_single

-- the C calls: the writer finds the addresses or there are none, what the reader reads is measured, every frame arrives or is 15
pub c_writing_finds : CWritingFinds
c_writing_finds = c_calls.c_writing_finds

pub c_reading_measures : CReadingMeasures
c_reading_measures = c_calls.c_reading_measures

pub c_walk_arrives : CWalkArrives
c_walk_arrives = c_calls.c_walk_arrives

pub c_walk_full : CWalkFull
c_walk_full = c_calls.c_walk_full

-- and 18, exactly, with all as it was
pub c_caller_refused : CCallerRefused
c_caller_refused = c_calls.c_caller_refused

-- every listing fits its lent buffer
pub listing_fits : ListingFits
listing_fits = listing.listing_fits

-- a number in it reads back, has no zero in front, and is made of digits
pub decimal_value : DecimalValue
decimal_value = text.decimal_value

pub decimal_first : DecimalFirst
decimal_first = text.decimal_first

pub decimal_digits : DecimalDigits
decimal_digits = text.decimal_digits
