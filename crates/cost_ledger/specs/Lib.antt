pub mod CostRow
