-- The paths that take an argument.
use Rattle.std.proofs.Common.{ℕ, ◌+◌, ◌<◌, ◌≡◌, Bool, true, false, List, [], ◌∷◌, ◌++◌, length, map, drop, get_or, refl, sym, ap, ◌∙◌}
use Rattle.std.specs.Prelude.{if◌then◌else◌}
use Rattle.fy_types.specs.declared.paths.Path.{Path}
use Rattle.fy_types.specs.declared.paths.Paths.{Paths}
use Rattle.fy_types.specs.Paths.{PlainPath, PlainPaths, end, call, pick, no_paths, and_path, append}
use Rattle.fy_types.specs.Reading.{paths_from, paths_in, plain_path, plain_paths}
use Rattle.fy_types.proofs.Laws.{append_assoc}
use Rattle.fy_types.proofs.Making.{made-push}
use Rattle.fy_types.proofs.ReadLemmas.{plain_paths-at}
use Rattle.fy_types.proofs.Steps.{drop_item}
use Rattle.fy_why.specs.Origins.{takers}
use Rattle.fy_why.specs.Readings.{is_taker}

taker-front : (Q : PlainPaths) (p : PlainPath) (P : PlainPaths) → takers Q (and_path p P) ≡ (if is_taker Q p then and_path p (takers Q P) else takers Q P)
taker-front Q (end a) P = refl
taker-front Q (call D p) P = refl
taker-front Q (pick i p) P = refl

takers-left : (Q : PlainPaths) (xs : List Path) (i : ℕ) (x : Path) (b : Bool) → i < length xs → x ≡ get_or xs i x → is_taker Q (plain_path x) ≡ b →
    takers Q (paths_from (map plain_path (drop i xs)))
    ≡ (if b then and_path (plain_path x) (takers Q (paths_from (map plain_path (drop (i + 1) xs)))) else takers Q (paths_from (map plain_path (drop (i + 1) xs))))
takers-left Q xs i x b within is takes =
    let rest = paths_from (map plain_path (drop (i + 1) xs)) in
    ap (λ ps. takers Q (paths_from ps)) (drop_item plain_path xs i x within is)
    ∙ (taker-front Q (plain_path x) rest ∙ ap (λ c. if c then and_path (plain_path x) (takers Q rest) else takers Q rest) takes)

pub takers-more : (Q : PlainPaths) (xs : List Path) (i : ℕ) (x : Path) (old new : Paths) (item : Path) (W : PlainPaths) → i < length xs → x ≡ get_or xs i x →
    is_taker Q (plain_path x) ≡ true → paths_in new ≡ paths_in old ++ item ∷ [] → plain_path item ≡ plain_path x →
    append (plain_paths old) (takers Q (paths_from (map plain_path (drop i xs)))) ≡ W →
    append (plain_paths new) (takers Q (paths_from (map plain_path (drop (i + 1) xs)))) ≡ W
takers-more Q xs i x old new item W within is takes pushed same so_far =
    let rest = takers Q (paths_from (map plain_path (drop (i + 1) xs))) in
    ap (λ P. append P rest) (plain_paths-at new
    ∙ (ap (λ ps. paths_from (map plain_path ps)) pushed
    ∙ (made-push (paths_in old) item
    ∙ (ap (λ P. append P (and_path (plain_path item) no_paths)) (sym (plain_paths-at old))
    ∙ ap (λ p. append (plain_paths old) (and_path p no_paths)) same))))
    ∙ (append_assoc (plain_paths old) (and_path (plain_path x) no_paths) rest
    ∙ (sym (ap (append (plain_paths old)) (takers-left Q xs i x true within is takes)) ∙ so_far))

pub takers-skip : (Q : PlainPaths) (xs : List Path) (i : ℕ) (x : Path) (P W : PlainPaths) → i < length xs → x ≡ get_or xs i x →
    is_taker Q (plain_path x) ≡ false → append P (takers Q (paths_from (map plain_path (drop i xs)))) ≡ W →
    append P (takers Q (paths_from (map plain_path (drop (i + 1) xs)))) ≡ W
takers-skip Q xs i x P W within is takes so_far = sym (ap (append P) (takers-left Q xs i x false within is takes)) ∙ so_far
