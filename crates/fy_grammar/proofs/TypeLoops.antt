-- Where an item of a list stops, the whole list stops.
use Rattle.std.proofs.Common.{◌≡◌, ℕ, true, List, ◌∷◌, length, ap, ◌∙◌}
use Rattle.std.specs.Prelude.{Result, Err}
use Rattle.fy_lexer.specs.declared.token.Token.{Token}
use Rattle.fy_lexer.specs.declared.token.Symbol.{Symbol}
use Rattle.fy_lexer.specs.declared.token.Symbol.TheVariants as symbol
use Rattle.fy_syntax.specs.Trees.{TypeTree, TypeTrees, DeclTree}
use Rattle.fy_syntax.specs.Reading.{types_from}
use Rattle.fy_syntax.specs.Reader.{Fault, Read, mapped, behind, begins_with, types_at, type_field, type_inner, read_type, decl_at, decls_at}
use Rattle.fy_grammar.specs.Gives.{Stops}
use Rattle.fy_grammar.specs.declared.stop.Stop.{Stop}
use Rattle.fy_grammar.specs.declared.stop.Stop.TheVariants as stop
use Rattle.fy_grammar.proofs.Advance.{Takes, after_advances, fields_take, types_take, decls_take}
use Rattle.fy_grammar.proofs.Many.{ReadsOn, reads_on_fails, after, after_some, behind_first, types_first, decls_first}

-- a stop goes along where each fault does
pub stops_along : {A B : Type 0} (s : Stop) (r : Result A Fault) (q : Result B Fault) → ((x : Fault) → r ≡ Err x → q ≡ Err x) → Stops s r → Stops s q
stops_along (stop.Wrong ts) r q f h = f (Fault.wrong ts.now) h
stops_along (stop.Deep ts) r q f h = f (Fault.deep ts.now) h
stops_along stop.OutOfMemory r q f h = tt

types_fail : (s : Symbol) (item : List Token → Read TypeTree) → Takes item → (a : TypeTree) (done : List TypeTree) (ts rest : List Token) (x : Fault) →
    ReadsOn (after s item) (behind_first (after s item) a ts) done rest → begins_with s rest ≡ true → item (behind rest) ≡ Err x →
    mapped (TypeTrees.and_type a) (types_at (length ts) s item ts) ≡ Err x
types_fail s item t a done ts rest x h e f =
    types_first s item a ts ∙ ap (mapped types_from) (reads_on_fails (after s item) (behind_first (after s item) a ts) done rest x (after_advances s item t) h (after_some s item rest (Err x) e f))

pub members_fail : (d : ℕ) (a : TypeTree) (done : List TypeTree) (ts rest : List Token) (x : Fault) →
    ReadsOn (after symbol.Ampersand (type_field (type_inner d))) (behind_first (after symbol.Ampersand (type_field (type_inner d))) a ts) done rest →
    begins_with symbol.Ampersand rest ≡ true → type_field (type_inner d) (behind rest) ≡ Err x →
    mapped (TypeTrees.and_type a) (types_at (length ts) symbol.Ampersand (type_field (type_inner d)) ts) ≡ Err x
members_fail d a done ts rest x h e f = types_fail symbol.Ampersand (type_field (type_inner d)) (fields_take d) a done ts rest x h e f

pub alternatives_fail : (d : ℕ) (a : TypeTree) (done : List TypeTree) (ts rest : List Token) (x : Fault) →
    ReadsOn (after symbol.Bar (read_type d)) (behind_first (after symbol.Bar (read_type d)) a ts) done rest →
    begins_with symbol.Bar rest ≡ true → read_type d (behind rest) ≡ Err x →
    mapped (TypeTrees.and_type a) (types_at (length ts) symbol.Bar (read_type d) ts) ≡ Err x
alternatives_fail d a done ts rest x h e f = types_fail symbol.Bar (read_type d) (types_take d) a done ts rest x h e f

pub decls_fail : (d : ℕ) (a : DeclTree) (done : List DeclTree) (ts rest : List Token) (x : Fault) →
    ReadsOn (after symbol.Comma (decl_at (read_type d))) (behind_first (after symbol.Comma (decl_at (read_type d))) a ts) done rest →
    begins_with symbol.Comma rest ≡ true → decl_at (read_type d) (behind rest) ≡ Err x →
    mapped (λ more. a ∷ more) (decls_at (length ts) (read_type d) ts) ≡ Err x
decls_fail d a done ts rest x h e f =
    decls_first (read_type d) a ts
    ∙ reads_on_fails (after symbol.Comma (decl_at (read_type d))) (behind_first (after symbol.Comma (decl_at (read_type d))) a ts) done rest x
    (after_advances symbol.Comma (decl_at (read_type d)) (decls_take d)) h (after_some symbol.Comma (decl_at (read_type d)) rest (Err x) e f)
