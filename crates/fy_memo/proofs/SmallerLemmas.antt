-- A list in which each path stands once is no larger than with repeats.
use Rattle.std.proofs.Common.{◌+◌, ◌≤◌, Bool, true, false, inl, inr, arith, max, if◌then◌else◌}
use Rattle.fy_types.specs.Limits.{nodes, all_nodes, nesting, all_nesting, IsTooLarge}
use Rattle.fy_types.specs.Once.{is_same, without, once}
use Rattle.fy_types.specs.Paths.{PlainPath, PlainPaths, no_paths, and_path}

without-nodes : (p : PlainPath) (Q : PlainPaths) → all_nodes (without p Q) ≤ all_nodes Q
without-nodes p no_paths = omega arith
without-nodes p (and_path q Q) = by_test (without-nodes p Q) (is_same q p)
  where
    by_test : all_nodes (without p Q) ≤ all_nodes Q → (b : Bool) →
        all_nodes (if b then without p Q else and_path q (without p Q)) ≤ nodes q + all_nodes Q
    by_test few true = omega arith
    by_test few false = omega arith

without-nesting : (p : PlainPath) (Q : PlainPaths) → all_nesting (without p Q) ≤ all_nesting Q
without-nesting p no_paths = omega arith
without-nesting p (and_path q Q) = by_test (without-nesting p Q) (is_same q p)
  where
    by_test : all_nesting (without p Q) ≤ all_nesting Q → (b : Bool) →
        all_nesting (if b then without p Q else and_path q (without p Q)) ≤ max (nesting q) (all_nesting Q)
    by_test low true = omega arith
    by_test low false = omega arith

once-nodes : (P : PlainPaths) → all_nodes (once P) ≤ all_nodes P
once-nodes no_paths = omega arith
once-nodes (and_path p P) = omega (arith, without-nodes p (once P), once-nodes P)

once-nesting : (P : PlainPaths) → all_nesting (once P) ≤ all_nesting P
once-nesting no_paths = omega arith
once-nesting (and_path p P) = omega (arith, without-nesting p (once P), once-nesting P)

pub once-large : (P : PlainPaths) → IsTooLarge (once P) → IsTooLarge P
once-large P (inl many) = inl (omega (arith, once-nodes P))
once-large P (inr deep) = inr (omega (arith, once-nesting P))
