pub mod Accepted
pub use Rattle.mv_count_limits.specs.Counted
