-- Where a call stopped, the reading that goes on from it stops; and where tokens may stand one node further in.
use Rattle.std.proofs.Common.{◌≡◌, ◌<◌, ◌-◌, ℕ, zero, suc, List, refl, sym, ap, ◌∙◌, arith}
use Rattle.std.specs.Prelude.{Result, Err}
use Rattle.fy_lexer.specs.declared.token.Token.{Token}
use Rattle.fy_syntax.specs.Trees.{TypeTree}
use Rattle.fy_syntax.specs.Reader.{Fault, Read, ◌>>=◌, mapped, nested, inner, type_inner, read_type, Inner}
use Rattle.fy_grammar.specs.Forms.{within}
use Rattle.fy_grammar.specs.Gives.{Stops}
use Rattle.fy_grammar.specs.declared.stop.Stop.{Stop}
use Rattle.fy_grammar.specs.declared.stop.Stop.TheVariants as stop

pub stops_bind : {A B : Type 0} (s : Stop) (r : Result A Fault) (f : A → Result B Fault) → Stops s r → Stops s (r >>= f)
stops_bind (stop.Wrong ts) r f h = rw h refl
stops_bind (stop.Deep ts) r f h = rw h refl
stops_bind stop.OutOfMemory r f h = tt

pub stops_mapped : {A B : Type 0} (s : Stop) (f : A → B) (r : Read A) → Stops s r → Stops s (mapped f r)
stops_mapped (stop.Wrong ts) f r h = rw h refl
stops_mapped (stop.Deep ts) f r h = rw h refl
stops_mapped stop.OutOfMemory f r h = tt

pub stops_same : {A : Type 0} (s : Stop) (r q : Result A Fault) → r ≡ q → Stops s r → Stops s q
stops_same (stop.Wrong ts) r q e h = sym e ∙ h
stops_same (stop.Deep ts) r q e h = sym e ∙ h
stops_same stop.OutOfMemory r q e h = tt

-- one node further in
pub type_deep : {B : Type 0} (d : ℕ) (here : List Token) (go : (List Token → Read TypeTree) → Result B Fault) → d ≡ 0 → nested (type_inner d) here go ≡ Err (Fault.deep here)
unfolding type_inner
type_deep zero here go e = refl
type_deep (suc d) here go e = absurd (omega arith)

pub type_within : {B : Type 0} (d : ℕ) (here : List Token) (go : (List Token → Read TypeTree) → Result B Fault) → 0 < d → nested (type_inner d) here go ≡ go (read_type (d - 1))
unfolding type_inner
type_within zero here go e = absurd (omega arith)
type_within (suc d) here go e = ap (λ n. go (read_type n)) (omega arith)

pub term_deep : {B : Type 0} (d : ℕ) (here : List Token) (go : Inner → Result B Fault) → d ≡ 0 → nested (inner d) here go ≡ Err (Fault.deep here)
unfolding inner
term_deep zero here go e = refl
term_deep (suc d) here go e = absurd (omega arith)

pub term_within : {B : Type 0} (d : ℕ) (here : List Token) (go : Inner → Result B Fault) → 0 < d → nested (inner d) here go ≡ go (within (d - 1))
unfolding inner
term_within zero here go e = absurd (omega arith)
term_within (suc d) here go e = ap (λ n. go (within n)) (omega arith)
