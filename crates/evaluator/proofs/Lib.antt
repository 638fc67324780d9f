pub mod Sets
pub mod CellMeaning
pub mod NodeMeaning
pub mod CallMeaning
pub mod EvalMeaning
pub mod EvalWays
