-- The lemmas that proofs of other crates cite.
pub use Rattle.yt_order.proofs.Falling.{before_all, fresh_after, front_falls, insert_falls, insert_has, last_least, least_at_end, least_popped, none_fresh, one_least, one_popped, other_way, partitioned, popped_falls, push_falls, push_has, taken_popped}
pub use Rattle.yt_order.proofs.Sorts.{first_greater, first_less, first_no_greater, first_no_less, insert_behind, insert_in_front, sorting_sorts, two_numbers_compare}
pub use Rattle.yt_order.proofs.Words.{precedes_either, precedes_less, precedes_one_way, precedes_parts, precedes_same, precedes_total, words_are_ordered}
