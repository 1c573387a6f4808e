-- The lemmas that proofs of other crates cite.
pub use Rattle.yt_base.proofs.Decimals.{decimal_passes, digits_of_text-decimal, signed_decimal_passes, signed_of_text-decimal, value_of-decimal}
