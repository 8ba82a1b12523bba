pub mod Counted
pub use Rattle.mv_build.specs.Verdicts
