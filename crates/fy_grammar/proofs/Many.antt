-- Lists as a loop reads them: what was read so far, and what reading on gives.
use Rattle.std.proofs.Common.{◌≡◌, ◌<◌, ◌≤◌, ℕ, zero, suc, Bool, true, false, List, [], ◌∷◌, ◌++◌, length, map, append_assoc, refl, sym, ap, ◌∙◌, arith}
use Rattle.std.specs.Prelude.{Option, Some, None, Ok, Err, if◌then◌else◌}
use Rattle.fy_base.specs.declared.data.BinOp.{BinOp}
use Rattle.fy_base.specs.declared.data.Place.{Place}
use Rattle.fy_lexer.specs.declared.token.Token.{Token}
use Rattle.fy_lexer.specs.declared.token.Symbol.{Symbol}
use Rattle.fy_lexer.specs.declared.token.Symbol.TheVariants as symbol
use Rattle.fy_syntax.specs.Trees.{TypeTree, TypeTrees, DeclTree, Tree, Trees, Defs, Links}
use Rattle.fy_syntax.specs.Reading.{DefTree, LinkTree, types_from, trees_from, defs_from, links_from}
use Rattle.fy_syntax.specs.Signs.{front, Level}
use Rattle.fy_syntax.specs.Reader.{Fault, Read, ◌>>=◌, mapped, behind, begins_with, starts, operator_at, link_step, name_at, types_at, trees_at, dots_at, arguments_at, links_at, OneDef, def_at, defs_at, decl_at, decls_at}
use Rattle.fy_grammar.specs.Forms.{def_tree}
use Rattle.fy_grammar.specs.Gives.{Stops}
use Rattle.fy_grammar.specs.declared.stop.Stop.{Stop}
use Rattle.fy_grammar.specs.declared.stop.Stop.TheVariants as stop

-- what reading an item gives, if one begins here
abbrev pub Turn : Type 0 → Type 0
Turn A = List Token → Option (Read A)

abbrev pub many_step : {A : Type 0} → Option (Read A) → (A × List Token → Read (List A)) → List Token → Read (List A)
many_step (Some (Ok x)) go ts = go x
many_step (Some (Err e)) go ts = Err e
many_step None go ts = Ok ([], ts)

abbrev pub many : {A : Type 0} → ℕ → Turn A → List Token → Read (List A)
many zero turn ts = Ok ([], ts)
many (suc g) turn ts = many_step (turn ts) (λ x. mapped (λ more. x.0 ∷ more) (many g turn x.1)) ts

-- each item takes a token at least, and none begins behind the last
pub record Advances {A : Type 0} (turn : Turn A) : Type 0 where
  pub shorter : (ts : List Token) (x : A × List Token) → turn ts ≡ Some (Ok x) → length x.1 < length ts
  pub ends : turn [] ≡ None

step_same : {A : Type 0} (o : Option (Read A)) (f g : A × List Token → Read (List A)) (ts : List Token) → ((x : A × List Token) → o ≡ Some (Ok x) → f x ≡ g x) → many_step o f ts ≡ many_step o g ts
step_same None f g ts h = refl
step_same (Some (Ok x)) f g ts h = h x refl
step_same (Some (Err e)) f g ts h = refl

-- room for as many items as there are tokens is enough
many_enough : {A : Type 0} (turn : Turn A) → Advances turn → (g h : ℕ) (ts : List Token) → length ts ≤ g → length ts ≤ h → many g turn ts ≡ many h turn ts
many_enough turn i zero zero ts a b = refl
many_enough turn i zero (suc h) [] a b = rw i.ends refl
many_enough turn i zero (suc h) (t ∷ ts) a b = absurd (omega arith)
many_enough turn i (suc g) zero [] a b = rw i.ends refl
many_enough turn i (suc g) zero (t ∷ ts) a b = absurd (omega arith)
many_enough turn i (suc g) (suc h) ts a b =
    step_same (turn ts) (λ x. mapped (λ more. x.0 ∷ more) (many g turn x.1)) (λ x. mapped (λ more. x.0 ∷ more) (many h turn x.1)) ts
    (λ x e. ap (mapped (λ more. x.0 ∷ more)) (many_enough turn i g h x.1 (omega (arith, i.shorter ts x e)) (omega (arith, i.shorter ts x e))))

many_next : {A : Type 0} (turn : Turn A) → Advances turn → (ts : List Token) (x : A × List Token) → turn ts ≡ Some (Ok x) →
    many (length ts) turn ts ≡ mapped (λ more. x.0 ∷ more) (many (length x.1) turn x.1)
many_next turn i [] x e = absurd (let n = i.ends in cc)
many_next turn i (t ∷ ts) x e = rw e (ap (mapped (λ more. x.0 ∷ more)) (many_enough turn i (length ts) (length x.1) x.1 (omega (arith, i.shorter (t ∷ ts) x e)) (omega arith)))

many_end : {A : Type 0} (turn : Turn A) (ts : List Token) → turn ts ≡ None → many (length ts) turn ts ≡ Ok ([], ts)
many_end turn [] e = refl
many_end turn (t ∷ ts) e = rw e refl

many_fails : {A : Type 0} (turn : Turn A) → Advances turn → (ts : List Token) (f : Fault) → turn ts ≡ Some (Err f) → many (length ts) turn ts ≡ Err f
many_fails turn i [] f e = absurd (let n = i.ends in cc)
many_fails turn i (t ∷ ts) f e = rw e refl

-- reading on, behind what was read, gives what reading gave at the start
pub record ReadsOn {A : Type 0} (turn : Turn A) (start : Read (List A)) (done : List A) (ts : List Token) : Type 0 where
  pub gives : mapped (λ more. done ++ more) (many (length ts) turn ts) ≡ start

mapped_twice : {A B C : Type 0} (f : A → B) (g : B → C) (r : Read A) → mapped g (mapped f r) ≡ mapped (λ x. g (f x)) r
mapped_twice f g (Ok x) = refl
mapped_twice f g (Err e) = refl

mapped_next : {A : Type 0} (done : List A) (a : A) (r : Read (List A)) → mapped (λ more. done ++ more) (mapped (λ more. a ∷ more) r) ≡ mapped (λ more. (done ++ a ∷ []) ++ more) r
mapped_next done a (Ok x) = ap (λ l. Ok (l, x.1)) (sym (append_assoc done (a ∷ []) x.0))
mapped_next done a (Err e) = refl

-- what a loop reads, behind a first item or behind none
abbrev pub behind_first : {A : Type 0} → Turn A → A → List Token → Read (List A)
behind_first turn a ts = mapped (λ more. a ∷ more) (many (length ts) turn ts)

pub mapped_same : {A : Type 0} (r : Read (List A)) → mapped (λ more. [] ++ more) r ≡ r
mapped_same (Ok x) = refl
mapped_same (Err e) = refl

pub reads_on_first : {B A : Type 0} (turn : Turn A) (f : B → A) (a : B) (members : List B) (ts : List Token) → members ≡ [] ++ a ∷ [] → ReadsOn turn (behind_first turn (f a) ts) (map f members) ts
reads_on_first turn f a members ts e = rw e (record { gives = refl })

pub reads_on_none : {B A : Type 0} (turn : Turn A) (f : B → A) (members : List B) (ts : List Token) → members ≡ [] → ReadsOn turn (many (length ts) turn ts) (map f members) ts
reads_on_none turn f members ts e = rw e (record { gives = mapped_same (many (length ts) turn ts) })

pub reads_on_next : {A : Type 0} (turn : Turn A) (start : Read (List A)) (done : List A) (ts : List Token) (a : A) (r : List Token) →
    Advances turn → ReadsOn turn start done ts → turn ts ≡ Some (Ok (a, r)) → ReadsOn turn start (done ++ a ∷ []) r
reads_on_next turn start done ts a r i h e = record {
  gives = sym (mapped_next done a (many (length r) turn r)) ∙ ap (mapped (λ more. done ++ more)) (sym (many_next turn i ts (a, r) e)) ∙ h.gives;
}

append_none : {A : Type 0} (l : List A) → l ++ [] ≡ l
append_none [] = refl
append_none (x ∷ l) = ap (λ m. x ∷ m) (append_none l)

pub reads_on_end : {A : Type 0} (turn : Turn A) (start : Read (List A)) (done : List A) (ts : List Token) → ReadsOn turn start done ts → turn ts ≡ None → start ≡ Ok (done, ts)
reads_on_end turn start done ts h e = sym h.gives ∙ ap (mapped (λ more. done ++ more)) (many_end turn ts e) ∙ ap (λ l. Ok (l, ts)) (append_none done)

pub reads_on_fails : {A : Type 0} (turn : Turn A) (start : Read (List A)) (done : List A) (ts : List Token) (f : Fault) →
    Advances turn → ReadsOn turn start done ts → turn ts ≡ Some (Err f) → start ≡ Err f
reads_on_fails turn start done ts f i h e = sym h.gives ∙ ap (mapped (λ more. done ++ more)) (many_fails turn i ts f e)

pub reads_on_stops : {A : Type 0} (turn : Turn A) (start : Read (List A)) (done : List A) (ts : List Token) (s : Stop) (r : Read A) →
    Advances turn → ReadsOn turn start done ts → turn ts ≡ Some r → Stops s r → Stops s start
reads_on_stops turn start done ts (stop.Wrong us) r i h e f = reads_on_fails turn start done ts (Fault.wrong us.now) i h (e ∙ ap Some f)
reads_on_stops turn start done ts (stop.Deep us) r i h e f = reads_on_fails turn start done ts (Fault.deep us.now) i h (e ∙ ap Some f)
reads_on_stops turn start done ts stop.OutOfMemory r i h e f = tt

-- one more member of the program's list
map_push : {B A : Type 0} (f : B → A) (old : List B) (b : B) → map f (old ++ b ∷ []) ≡ map f old ++ f b ∷ []
map_push f [] b = refl
map_push f (c ∷ old) b = ap (λ l. f c ∷ l) (map_push f old b)

pub reads_on_push : {B A : Type 0} (turn : Turn A) (start : Read (List A)) (f : B → A) (old new : List B) (b : B) (ts r : List Token) →
    Advances turn → ReadsOn turn start (map f old) ts → turn ts ≡ Some (Ok (f b, r)) → new ≡ old ++ b ∷ [] → ReadsOn turn start (map f new) r
reads_on_push turn start f old new b ts r i h e n = rw n (rw (map_push f old b) (reads_on_next turn start (map f old) ts (f b) r i h e))

-- an item behind a symbol
abbrev pub after : {A : Type 0} → Symbol → (List Token → Read A) → Turn A
after s item ts = if begins_with s ts then Some (item (behind ts)) else None

pub after_some : {A : Type 0} (s : Symbol) (item : List Token → Read A) (ts : List Token) (r : Read A) → begins_with s ts ≡ true → item (behind ts) ≡ r → after s item ts ≡ Some r
after_some s item ts r e f = rw e (ap Some f)

pub after_none : {A : Type 0} (s : Symbol) (item : List Token → Read A) (ts : List Token) → begins_with s ts ≡ false → after s item ts ≡ None
after_none s item ts e = rw e refl

-- an argument
abbrev pub argument : (List Token → Read Tree) → Turn Tree
argument item ts = if starts ts then Some (item ts) else None

pub argument_some : (item : List Token → Read Tree) (ts : List Token) (r : Read Tree) → starts ts ≡ true → item ts ≡ r → argument item ts ≡ Some r
argument_some item ts r e f = rw e (ap Some f)

pub argument_none : (item : List Token → Read Tree) (ts : List Token) → starts ts ≡ false → argument item ts ≡ None
argument_none item ts e = rw e refl

-- an operand behind an operator
abbrev pub link_turn : Option BinOp → Place → Read Tree → Option (Read LinkTree)
link_turn (Some op) at r = Some (mapped (λ t. record { op = op; at = at; item = t }) r)
link_turn None at r = None

abbrev pub link : Level → (List Token → Read Tree) → Turn LinkTree
link c item ts = link_turn (operator_at c ts) (front ts) (item (behind ts))

-- the lists of the reader, item by item
pub types_many : (g : ℕ) (s : Symbol) (item : List Token → Read TypeTree) (ts : List Token) → types_at g s item ts ≡ mapped types_from (many g (after s item) ts)
types_many zero s item ts = refl
types_many (suc g) s item ts = go (λ us. types_many g s item us) (begins_with s ts) (item (behind ts))
  where
    go : ((us : List Token) → types_at g s item us ≡ mapped types_from (many g (after s item) us)) → (b : Bool) (r : Read TypeTree) →
        (if b then (r >>= λ x. mapped (TypeTrees.and_type x.0) (types_at g s item x.1)) else Ok (TypeTrees.no_types, ts))
        ≡ mapped types_from (many_step (if b then Some r else None) (λ x. mapped (λ more. x.0 ∷ more) (many g (after s item) x.1)) ts)
    go ih true (Ok x) = ap (mapped (TypeTrees.and_type x.0)) (ih x.1) ∙ mapped_twice types_from (TypeTrees.and_type x.0) (many g (after s item) x.1) ∙ sym (mapped_twice (λ more. x.0 ∷ more) types_from (many g (after s item) x.1))
    go ih true (Err e) = refl
    go ih false r = refl

pub trees_many : (g : ℕ) (s : Symbol) (item : List Token → Read Tree) (ts : List Token) → trees_at g s item ts ≡ mapped trees_from (many g (after s item) ts)
trees_many zero s item ts = refl
trees_many (suc g) s item ts = go (λ us. trees_many g s item us) (begins_with s ts) (item (behind ts))
  where
    go : ((us : List Token) → trees_at g s item us ≡ mapped trees_from (many g (after s item) us)) → (b : Bool) (r : Read Tree) →
        (if b then (r >>= λ x. mapped (Trees.and_tree x.0) (trees_at g s item x.1)) else Ok (Trees.no_trees, ts))
        ≡ mapped trees_from (many_step (if b then Some r else None) (λ x. mapped (λ more. x.0 ∷ more) (many g (after s item) x.1)) ts)
    go ih true (Ok x) = ap (mapped (Trees.and_tree x.0)) (ih x.1) ∙ mapped_twice trees_from (Trees.and_tree x.0) (many g (after s item) x.1) ∙ sym (mapped_twice (λ more. x.0 ∷ more) trees_from (many g (after s item) x.1))
    go ih true (Err e) = refl
    go ih false r = refl

pub arguments_many : (g : ℕ) (item : List Token → Read Tree) (ts : List Token) → arguments_at g item ts ≡ mapped trees_from (many g (argument item) ts)
arguments_many zero item ts = refl
arguments_many (suc g) item ts = go (λ us. arguments_many g item us) (starts ts) (item ts)
  where
    go : ((us : List Token) → arguments_at g item us ≡ mapped trees_from (many g (argument item) us)) → (b : Bool) (r : Read Tree) →
        (if b then (r >>= λ x. mapped (Trees.and_tree x.0) (arguments_at g item x.1)) else Ok (Trees.no_trees, ts))
        ≡ mapped trees_from (many_step (if b then Some r else None) (λ x. mapped (λ more. x.0 ∷ more) (many g (argument item) x.1)) ts)
    go ih true (Ok x) = ap (mapped (Trees.and_tree x.0)) (ih x.1) ∙ mapped_twice trees_from (Trees.and_tree x.0) (many g (argument item) x.1) ∙ sym (mapped_twice (λ more. x.0 ∷ more) trees_from (many g (argument item) x.1))
    go ih true (Err e) = refl
    go ih false r = refl

pub dots_many : (g : ℕ) (ts : List Token) → dots_at g ts ≡ many g (after symbol.Dot name_at) ts
dots_many zero ts = refl
dots_many (suc g) ts = go (λ us. dots_many g us) (begins_with symbol.Dot ts) (name_at (behind ts))
  where
    go : ((us : List Token) → dots_at g us ≡ many g (after symbol.Dot name_at) us) → (b : Bool) (r : Read ℕ) →
        (if b then (r >>= λ x. mapped (λ names. x.0 ∷ names) (dots_at g x.1)) else Ok ([], ts))
        ≡ many_step (if b then Some r else None) (λ x. mapped (λ more. x.0 ∷ more) (many g (after symbol.Dot name_at) x.1)) ts
    go ih true (Ok x) = ap (mapped (λ more. x.0 ∷ more)) (ih x.1)
    go ih true (Err e) = refl
    go ih false r = refl

pub decls_many : (g : ℕ) (type : List Token → Read TypeTree) (ts : List Token) → decls_at g type ts ≡ many g (after symbol.Comma (decl_at type)) ts
decls_many zero type ts = refl
decls_many (suc g) type ts = go (λ us. decls_many g type us) (begins_with symbol.Comma ts) (decl_at type (behind ts))
  where
    go : ((us : List Token) → decls_at g type us ≡ many g (after symbol.Comma (decl_at type)) us) → (b : Bool) (r : Read DeclTree) →
        (if b then (r >>= λ x. mapped (λ more. x.0 ∷ more) (decls_at g type x.1)) else Ok ([], ts))
        ≡ many_step (if b then Some r else None) (λ x. mapped (λ more. x.0 ∷ more) (many g (after symbol.Comma (decl_at type)) x.1)) ts
    go ih true (Ok x) = ap (mapped (λ more. x.0 ∷ more)) (ih x.1)
    go ih true (Err e) = refl
    go ih false r = refl

-- a definition, as trees hold it
abbrev pub def : (List Token → Read Tree) → List Token → Read DefTree
def term ts = mapped def_tree (def_at term ts)

pub defs_many : (g : ℕ) (term : List Token → Read Tree) (ts : List Token) → defs_at g term ts ≡ mapped defs_from (many g (after symbol.Comma (def term)) ts)
defs_many zero term ts = refl
defs_many (suc g) term ts = go (λ us. defs_many g term us) (begins_with symbol.Comma ts) (def_at term (behind ts))
  where
    go : ((us : List Token) → defs_at g term us ≡ mapped defs_from (many g (after symbol.Comma (def term)) us)) → (b : Bool) (r : Read OneDef) →
        (if b then (r >>= λ x. mapped (Defs.and_def x.0.name x.0.at x.0.body) (defs_at g term x.1)) else Ok (Defs.no_defs, ts))
        ≡ mapped defs_from (many_step (if b then Some (mapped def_tree r) else None) (λ x. mapped (λ more. x.0 ∷ more) (many g (after symbol.Comma (def term)) x.1)) ts)
    go ih true (Ok x) = ap (mapped (Defs.and_def x.0.name x.0.at x.0.body)) (ih x.1) ∙ mapped_twice defs_from (Defs.and_def x.0.name x.0.at x.0.body) (many g (after symbol.Comma (def term)) x.1) ∙ sym (mapped_twice (λ more. def_tree x.0 ∷ more) defs_from (many g (after symbol.Comma (def term)) x.1))
    go ih true (Err e) = refl
    go ih false r = refl

pub links_many : (g : ℕ) (c : Level) (item : List Token → Read Tree) (ts : List Token) → links_at g c item ts ≡ mapped links_from (many g (link c item) ts)
links_many zero c item ts = refl
links_many (suc g) c item ts = go (λ us. links_many g c item us) (operator_at c ts) (item (behind ts))
  where
    go : ((us : List Token) → links_at g c item us ≡ mapped links_from (many g (link c item) us)) → (o : Option BinOp) (r : Read Tree) →
        link_step o (λ op. r >>= λ x. mapped (Links.and_link op (front ts) x.0) (links_at g c item x.1)) (Ok (Links.no_links, ts))
        ≡ mapped links_from (many_step (link_turn o (front ts) r) (λ x. mapped (λ more. x.0 ∷ more) (many g (link c item) x.1)) ts)
    go ih (Some op) (Ok x) = ap (mapped (Links.and_link op (front ts) x.0)) (ih x.1) ∙ mapped_twice links_from (Links.and_link op (front ts) x.0) (many g (link c item) x.1) ∙ sym (mapped_twice (λ more. (record { op = op; at = front ts; item = x.0 }) ∷ more) links_from (many g (link c item) x.1))
    go ih (Some op) (Err e) = refl
    go ih None r = refl

-- lists behind a first item
pub types_first : (s : Symbol) (item : List Token → Read TypeTree) (a : TypeTree) (ts : List Token) →
    mapped (TypeTrees.and_type a) (types_at (length ts) s item ts) ≡ mapped types_from (behind_first (after s item) a ts)
types_first s item a ts =
    ap (mapped (TypeTrees.and_type a)) (types_many (length ts) s item ts) ∙ mapped_twice types_from (TypeTrees.and_type a) (many (length ts) (after s item) ts)
    ∙ sym (mapped_twice (λ more. a ∷ more) types_from (many (length ts) (after s item) ts))

pub trees_first : (s : Symbol) (item : List Token → Read Tree) (a : Tree) (ts : List Token) →
    mapped (Trees.and_tree a) (trees_at (length ts) s item ts) ≡ mapped trees_from (behind_first (after s item) a ts)
trees_first s item a ts =
    ap (mapped (Trees.and_tree a)) (trees_many (length ts) s item ts) ∙ mapped_twice trees_from (Trees.and_tree a) (many (length ts) (after s item) ts)
    ∙ sym (mapped_twice (λ more. a ∷ more) trees_from (many (length ts) (after s item) ts))

pub defs_first : (term : List Token → Read Tree) (d : DefTree) (ts : List Token) →
    mapped (Defs.and_def d.name d.at d.body) (defs_at (length ts) term ts) ≡ mapped defs_from (behind_first (after symbol.Comma (def term)) d ts)
defs_first term d ts =
    ap (mapped (Defs.and_def d.name d.at d.body)) (defs_many (length ts) term ts) ∙ mapped_twice defs_from (Defs.and_def d.name d.at d.body) (many (length ts) (after symbol.Comma (def term)) ts)
    ∙ sym (mapped_twice (λ more. d ∷ more) defs_from (many (length ts) (after symbol.Comma (def term)) ts))

pub decls_first : (type : List Token → Read TypeTree) (d : DeclTree) (ts : List Token) →
    mapped (λ more. d ∷ more) (decls_at (length ts) type ts) ≡ behind_first (after symbol.Comma (decl_at type)) d ts
decls_first type d ts = ap (mapped (λ more. d ∷ more)) (decls_many (length ts) type ts)
