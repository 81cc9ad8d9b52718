-- What finding answers of a phrase, said of the form of the phrase.
use Rattle.std.proofs.Common.{ℕ, ◌≡◌, List, ◌∷◌, Bor, refl, sym, ap, ◌∙◌, subst}
use Rattle.std.specs.Prelude.{IfOk, IsErrOf, Result, Ok, Err}
use Rattle.fy_base.specs.declared.data.Place.{Place}
use Rattle.fy_forms.specs.declared.error.TypeError.{TypeError}
use Rattle.fy_forms.specs.declared.error.TypeError.TheVariants as types
use Rattle.fy_types.specs.Paths.{PlainPaths}
use Rattle.fy_types.specs.Reading.{plain_paths}
use Rattle.fy_phrase.specs.declared.phrase.MarkKind.{MarkKind}
use Rattle.fy_base.specs.declared.data.Datum.{Datum}
use Rattle.fy_phrase.specs.declared.phrase.Phrase as form
use Rattle.fy_phrase.specs.declared.phrase.Phrase.{Phrase, fold-roll-Phrase}
use Rattle.fy_phrase.specs.declared.phrase.Phrase.TheOpen.{Phrase-F}
use Rattle.fy_phrase.specs.declared.phrase.Phrase.TheVariants.{rolls-Lit, rolls-Skip, rolls-Mark}
use Rattle.fy_phrase.specs.Tree.{Tree, Trees, lit, skip, mark}
use Rattle.fy_phrase.specs.Reads.{reads, reads_form, reads_list}
use Rattle.fy_derive.specs.Least.{visits}
use Rattle.fy_memo.specs.declared.table.Table.{Table}
use Rattle.fy_least.specs.declared.bound.Bound.{Bound}
use Rattle.fy_least.specs.declared.error.LeastError.{LeastError}
use Rattle.fy_least.specs.declared.error.LeastError.TheVariants.{TypeTooLarge}
use Rattle.fy_least.specs.declared.found.Found.{Found}
use Rattle.fy_least.specs.declared.scope.Scope as scope_form
use Rattle.fy_least.specs.declared.scope.Scope.{Scope}
use Rattle.fy_least.specs.Counts.{PassLimits}
use Rattle.fy_least.specs.Refused.{of_type}
use Rattle.fy_least.specs.declared.context.Context.{Context}
use Rattle.fy_least.specs.Scopes.{context_forms, scope_forms}
use Rattle.fy_least.specs.Visited.{IsFound}
use Rattle.fy_least.proofs.ScopeLemmas.{forms-around, forms-under}

pub Lit-tree : (p : Phrase) (v : Datum) (at : Place) → p ≡ form.Lit v at → reads p ≡ lit v at
Lit-tree p v at e = rw e (ap reads (sym (rolls-Lit v at)) ∙ fold-roll-Phrase Tree Trees reads_form reads_list (Phrase-F.Lit v at))

pub Skip-tree : (p : Phrase) (at : Place) → p ≡ form.Skip at → reads p ≡ skip at
Skip-tree p at e = rw e (ap reads (sym (rolls-Skip at)) ∙ fold-roll-Phrase Tree Trees reads_form reads_list (Phrase-F.Skip at))

pub Mark-tree : (p : Phrase) (m : MarkKind) (at : Place) → p ≡ form.Mark m at → reads p ≡ mark m at
Mark-tree p m at e = rw e (ap reads (sym (rolls-Mark m at)) ∙ fold-roll-Phrase Tree Trees reads_form reads_list (Phrase-F.Mark m at))

-- what is found of the phrase, from two clauses on what is made
pub ok-of : {G : List PlainPaths} {s t : Tree} {P D : Found → Type 0} (r : Result Found LeastError) → s ≡ t →
    ((f : Found) → P f → D f → IsFound G t f) → IfOk r P → IfOk r D → IfOk r (IsFound G s)
ok-of {G = G} (Ok f) e h p d = subst (λ q. IsFound G q f) (sym e) (h f p d)
ok-of (Err x) e h p d = tt

pub same-ok : (G : List PlainPaths) {s t : Tree} (r : Result Found LeastError) → s ≡ t → IfOk r (IsFound G t) → IfOk r (IsFound G s)
same-ok G (Ok f) e h = subst (λ q. IsFound G q f) (sym e) h
same-ok G (Err x) e h = tt

-- limits that the phrase passes
pub large-of : (G : List PlainPaths) {s t : Tree} → s ≡ t → ((m : ℕ) → PassLimits (visits m G t)) → (m : ℕ) → PassLimits (visits m G s)
large-of G e h m = subst (λ q. PassLimits (visits m G q)) (sym e) (h m)

-- an error is the same at another type of results, and a refusal of a type is one of finding
pub turned : {S T E : Type 0} (x y : E) → IsErrOf {T = S} (Err x) y → IsErrOf {T = T} (Err x) y
turned x y e = ap Err (cc)

pub too-large : {S T : Type 0} (x : TypeError) → IsErrOf {T = S} (Err (of_type x)) TypeTooLarge → IsErrOf {T = T} (Err x) types.TypeTooLarge
too-large types.TypeTooLarge e = refl
too-large types.OutOfMemory e = absurd (cc)

-- the path forms of a scope, by its form
pub scope-under : (P : Bor Bound) (o : Bor Scope) → scope_forms (scope_form.Under P o) ≡ plain_paths P.now.paths.now ∷ scope_forms o.now
scope-under P o = forms-under (scope_form.Under P o) P o refl

pub scope-around : (x : Bor Context) (table : Bor Table) → scope_forms (scope_form.Around x table) ≡ context_forms x.now
scope-around x table = forms-around _ x table refl
