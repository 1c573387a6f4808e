pub mod Examples
pub mod ManyWires
