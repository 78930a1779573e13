-- The prelude of proofs, beside that of the library: equations, cases, decisions, tests and arithmetic.
pub use mathlib.Core.Path.{refl, sym, ap, ◌∙◌, subst}
pub use mathlib.Core.Logic.{inl, inr}
pub use mathlib.Core.Bool.{true≢false, false≢true}
pub use native.Mathlib.Omega.{arith}
pub use native.Mathlib.Decide.{ℕ_discrete, dec_lt}
pub use borrow.Author.Tests.{ne_eqb, eq-eqb, le-ltb, lt-ltb, lt-leb, le-leb, eqb-true, eqb-false, ltb-true, ltb-false}
pub use borrow.Author.Tests.{leb-true, leb-false, not-true, not-false}
