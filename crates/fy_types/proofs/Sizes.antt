-- Sizes of joined lists, and of lists behind a call or a field.
use Rattle.std.proofs.Common.{ℕ, ◌+◌, ◌*◌, ◌<◌, ◌≤◌, ◌≡◌, inl, inr, max, refl, arith}
use Rattle.fy_types.specs.Paths.{PlainPath, PlainPaths, end, call, pick, no_paths, and_path, append, called, picked}
use Rattle.fy_types.specs.Limits.{nodes, all_nodes, nesting, all_nesting, IsTooLarge}

abbrev pub count : PlainPaths → ℕ
count no_paths = 0
count (and_path p P) = count P + 1

pub nodes-pos : (p : PlainPath) → 1 ≤ nodes p
nodes-pos (end a) = omega arith
nodes-pos (call D p) = omega arith
nodes-pos (pick i p) = omega arith

pub nesting-pos : (p : PlainPath) → 1 ≤ nesting p
nesting-pos (end a) = omega arith
nesting-pos (call D p) = omega arith
nesting-pos (pick i p) = omega arith

pub count-le : (P : PlainPaths) → count P ≤ all_nodes P
count-le no_paths = omega arith
count-le (and_path p P) = omega (arith, nodes-pos p, count-le P)

pub no_nodes : (P : PlainPaths) → all_nodes P ≡ 0 → P ≡ no_paths
no_nodes no_paths e = refl
no_nodes (and_path p P) e = absurd (omega (arith, nodes-pos p))

pub some_nodes : (P : PlainPaths) → 0 < all_nodes P → 0 < count P
some_nodes no_paths some = some
some_nodes (and_path p P) some = omega arith

pub append-nodes : (P Q : PlainPaths) → all_nodes (append P Q) ≡ all_nodes P + all_nodes Q
append-nodes no_paths Q = omega arith
append-nodes (and_path p P) Q = omega (arith, append-nodes P Q)

pub append-nesting : (P Q : PlainPaths) → all_nesting (append P Q) ≡ max (all_nesting P) (all_nesting Q)
append-nesting no_paths Q = omega arith
append-nesting (and_path p P) Q = omega (arith, append-nesting P Q)

pub called-nodes : (D P : PlainPaths) → all_nodes (called D P) ≡ count P * (all_nodes D + 1) + all_nodes P
called-nodes D no_paths = omega arith
called-nodes D (and_path p P) = omega (arith, called-nodes D P)

pub called-nesting : (D P : PlainPaths) → 0 < count P → all_nesting (called D P) ≡ max (all_nesting D) (all_nesting P) + 1
called-nesting D (and_path p no_paths) some = omega (arith, nesting-pos p)
called-nesting D (and_path p (and_path q P)) some = omega (arith, called-nesting D (and_path q P) (omega arith))
called-nesting D no_paths some = absurd (omega arith)

pub picked-nodes : (i : ℕ) (P : PlainPaths) → all_nodes (picked i P) ≡ count P + all_nodes P
picked-nodes i no_paths = omega arith
picked-nodes i (and_path p P) = omega (arith, picked-nodes i P)

pub picked-nesting : (i : ℕ) (P : PlainPaths) → 0 < count P → all_nesting (picked i P) ≡ all_nesting P + 1
picked-nesting i (and_path p no_paths) some = omega (arith, nesting-pos p)
picked-nesting i (and_path p (and_path q P)) some = omega (arith, picked-nesting i (and_path q P) (omega arith))
picked-nesting i no_paths some = absurd (omega arith)

pub large-left : (P Q : PlainPaths) → IsTooLarge P → IsTooLarge (append P Q)
large-left P Q (inl many) = inl (omega (arith, append-nodes P Q))
large-left P Q (inr deep) = inr (omega (arith, append-nesting P Q))

pub large-right : (P Q : PlainPaths) → IsTooLarge Q → IsTooLarge (append P Q)
large-right P Q (inl many) = inl (omega (arith, append-nodes P Q))
large-right P Q (inr deep) = inr (omega (arith, append-nesting P Q))

domain-nodes : (D P : PlainPaths) → 0 < count P → all_nodes D ≤ all_nodes (called D P)
domain-nodes D no_paths some = absurd (omega arith)
domain-nodes D (and_path p P) some = omega arith

rest-nodes : (D P : PlainPaths) → all_nodes P ≤ all_nodes (called D P)
rest-nodes D no_paths = omega arith
rest-nodes D (and_path p P) = omega (arith, rest-nodes D P)

part-nodes : (i : ℕ) (P : PlainPaths) → all_nodes P ≤ all_nodes (picked i P)
part-nodes i P = omega (arith, picked-nodes i P)

nesting-some : (P : PlainPaths) → 480 < all_nesting P → 0 < count P
nesting-some no_paths deep = absurd (omega arith)
nesting-some (and_path p P) deep = omega arith

pub large-domain : (D P : PlainPaths) → 0 < all_nodes P → IsTooLarge D → IsTooLarge (called D P)
large-domain D P some (inl many) = inl (omega (arith, domain-nodes D P (some_nodes P some)))
large-domain D P some (inr deep) = inr (omega (arith, called-nesting D P (some_nodes P some)))

pub large-rest : (D P : PlainPaths) → IsTooLarge P → IsTooLarge (called D P)
large-rest D P (inl many) = inl (omega (arith, rest-nodes D P))
large-rest D P (inr deep) = inr (omega (arith, called-nesting D P (nesting-some P deep)))

pub large-part : (i : ℕ) (P : PlainPaths) → IsTooLarge P → IsTooLarge (picked i P)
large-part i P (inl many) = inl (omega (arith, part-nodes i P))
large-part i P (inr deep) = inr (omega (arith, picked-nesting i P (nesting-some P deep)))

pub not_large : IsTooLarge no_paths → ⊥
not_large (inl many) = omega arith
not_large (inr deep) = omega arith

pub called-count : (D P : PlainPaths) → count (called D P) ≡ count P
called-count D no_paths = refl
called-count D (and_path p P) = omega (arith, called-count D P)

pub picked-count : (i : ℕ) (P : PlainPaths) → count (picked i P) ≡ count P
picked-count i no_paths = refl
picked-count i (and_path p P) = omega (arith, picked-count i P)
