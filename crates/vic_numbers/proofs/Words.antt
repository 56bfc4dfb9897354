-- The words of proofs, from one place: what files name from outside of the crate.
pub use Rattle.std.proofs.Common.{List, add-one, ap, arith, drop, get_or, length, map, refl, replicate, rules, subst, suc, sym, take, zero, ℕ, ◌++◌, ◌<◌, ◌∙◌, ◌∷◌, ◌≡◌, ◌≤◌}
pub use Rattle.std.proofs.lemmas.List.{drop-replicate, map-id}
pub use Rattle.vic_verdict.specs.declared.judging.Verdict.{Verdict}
pub use Rattle.vic_verdict.specs.declared.judging.Verdict.TheVariants.{Complete}
pub use Rattle.vic_answer.specs.declared.answered.Answered.{Answered}
pub use Rattle.vic_answer.specs.declared.answered.Answered.TheVariants.{Found}
