-- How deep the paths of a level are, and those of the next one.
use Rattle.std.proofs.Common.{ℕ, zero, suc, ◌-◌, ◌<◌, ◌≤◌, ◌≡◌, max, List, [], ◌∷◌, ◌++◌, length, Contains, refl, ap, arith}
use Rattle.fy_types.specs.Paths.{PlainPath, PlainPaths, end, call, pick, no_paths, and_path}
use Rattle.fy_types.specs.Limits.{nesting, all_nesting}
use Rattle.fy_order.specs.Levels.{PlainTagged, all_tagged, inner, inner_from, next}

-- the greatest depth among the paths
abbrev pub depth_in : List PlainTagged → ℕ
depth_in [] = 0
depth_in (t ∷ T) = max (nesting t.path) (depth_in T)

depth-append : (xs ys : List PlainTagged) → depth_in (xs ++ ys) ≡ max (depth_in xs) (depth_in ys)
depth-append [] ys = omega arith
depth-append (x ∷ xs) ys = omega (arith, depth-append xs ys)

depth-tagged : (n : ℕ) (P : PlainPaths) → depth_in (all_tagged n P) ≡ all_nesting P
depth-tagged n no_paths = refl
depth-tagged n (and_path p P) = ap (max (nesting p)) (depth-tagged n P)

depth-inner : (n : ℕ) (p : PlainPath) → depth_in (inner_from n p) < nesting p
depth-inner n (end a) = omega arith
depth-inner n (call D p) =
    omega (arith, depth-inner (suc n) p, depth-tagged n D, depth-append (all_tagged n D) (inner_from (suc n) p))
depth-inner n (pick i p) = omega (arith, depth-inner (suc n) p)

depth-next : (T : List PlainTagged) → depth_in (next T) ≤ depth_in T - 1
depth-next [] = omega arith
depth-next (t ∷ T) = omega (arith, depth-inner 0 t.path, depth-next T, depth-append (inner t) (next T))

-- those of the next level are less deep
pub next-less : (T : List PlainTagged) → 0 < length T → depth_in (next T) < depth_in T
next-less [] some = absurd (omega arith)
next-less (t ∷ T) some = omega (arith, depth-next (t ∷ T), depth-inner 0 t.path)

depth-of : (T : List PlainTagged) (t : PlainTagged) → Contains T t → nesting t.path ≤ depth_in T
depth-of [] t (i, within, is) = absurd (omega arith)
depth-of (x ∷ T) t (zero, within, is) = omega (arith, ap (λ (y : PlainTagged). nesting y.path) is)
depth-of (x ∷ T) t (suc i, within, is) = omega (arith, depth-of T t (i, omega arith, is))

-- some of the paths are no deeper than all
pub depth-some : (S T : List PlainTagged) → ((t : PlainTagged) → Contains S t → Contains T t) → depth_in S ≤ depth_in T
depth-some [] T some = omega arith
depth-some (x ∷ S) T some =
    omega (arith, depth-of T x (some x (0, omega arith, refl)), depth-some S T (λ t has. some t (let h = has in (suc h.0, omega (arith, h.1), h.2))))
