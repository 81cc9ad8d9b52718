-- Forms of terms with lists in them, read step by step, where the parser gives a list with its first member.
use Rattle.std.proofs.Common.{◌≡◌, ℕ, List, ◌∷◌, length, refl, sym, ap, ◌∙◌}
use Rattle.std.specs.Prelude.{Result, Ok, Err}
use Rattle.fy_base.specs.declared.data.Place.{Place}
use Rattle.fy_lexer.specs.declared.token.Token.{Token}
use Rattle.fy_lexer.specs.declared.token.Keyword.TheVariants as word
use Rattle.fy_lexer.specs.declared.token.Symbol.TheVariants as symbol
use Rattle.fy_syntax.specs.Trees.{TypeTree, TypeTrees, DeclTree, Tree, Trees, Defs}
use Rattle.fy_syntax.specs.Signs.{front}
use Rattle.fy_syntax.specs.Reading.{DefTree}
use Rattle.fy_syntax.specs.Reader.{Fault, Read, ◌>>=◌, mapped, behind, expect, expect_word, name_at, types_at, decl_at, decls_at, trees_at, Inner, seq_at, def_at, defs_at, lam_at, let_at, letrec_at}
use Rattle.fy_grammar.specs.Forms.{def_tree}
use Rattle.fy_grammar.specs.Gives.{Stops}
use Rattle.fy_grammar.specs.declared.stop.Stop.{Stop}
use Rattle.fy_grammar.specs.declared.stop.Stop.TheVariants as stop
use Rattle.fy_grammar.proofs.Stopping.{stops_bind, stops_mapped, stops_same}

-- where the parser gives what is made of a part, and the reader reads on behind the part itself
pub stops_under : {A B C : Type 0} (s : Stop) (f : A → B) (r : Read A) (g : A × List Token → Result C Fault) → Stops s (mapped f r) → Stops s (r >>= g)
stops_under (stop.Wrong ts) f (Ok x) g h = absurd cc
stops_under (stop.Wrong ts) f (Err e) g h = let k : e ≡ Fault.wrong ts.now = cc in ap Err k
stops_under (stop.Deep ts) f (Ok x) g h = absurd cc
stops_under (stop.Deep ts) f (Err e) g h = let k : e ≡ Fault.deep ts.now = cc in ap Err k
stops_under stop.OutOfMemory f r g h = tt

pub bind_read : {A B C : Type 0} (f : A → B) (r : Read A) (g : A × List Token → Result C Fault) (h : B × List Token → Result C Fault) (y : B × List Token) (z : Result C Fault) →
    ((x : A × List Token) → g x ≡ h (f x.0, x.1)) → mapped f r ≡ Ok y → h y ≡ z → (r >>= g) ≡ z
bind_read f (Ok x) g h y z same e k = let s : (f x.0, x.1) ≡ y = cc in same x ∙ ap h s ∙ k
bind_read f (Err e) g h y z same e2 k = absurd cc

pub bind_stops : {A B C : Type 0} (f : A → B) (r : Read A) (g : A × List Token → Result C Fault) (h : B × List Token → Result C Fault) (y : B × List Token) (s : Stop) →
    ((x : A × List Token) → g x ≡ h (f x.0, x.1)) → mapped f r ≡ Ok y → Stops s (h y) → Stops s (r >>= g)
bind_stops f r g h y s same e k = stops_same s (h y) (r >>= g) (sym (bind_read f r g h y (h y) same e refl)) k

pub lam_stops_0 : (i : Inner) (p : Place) (ts : List Token) (s : Stop) → Stops s (name_at ts) → Stops s (lam_at i p ts)
lam_stops_0 i p ts s h = stops_bind s (name_at ts) _ h

pub lam_stops_1 : (i : Inner) (p : Place) (ts : List Token) (n : ℕ) (m : List Token) (s : Stop) → name_at ts ≡ Ok (n, m) → Stops s (expect symbol.Colon m) → Stops s (lam_at i p ts)
lam_stops_1 i p ts n m s e0 h = rw e0 (stops_bind s (expect symbol.Colon m) _ h)

pub lam_stops_2 : (i : Inner) (p : Place) (ts : List Token) (n : ℕ) (m : List Token) (k : List Token) (s : Stop) → name_at ts ≡ Ok (n, m) → expect symbol.Colon m ≡ Ok k → Stops s (i.type k) → Stops s (lam_at i p ts)
lam_stops_2 i p ts n m k s e0 e1 h = rw e0 (rw e1 (stops_bind s (i.type k) _ h))

pub lam_stops_3 : (i : Inner) (p : Place) (ts : List Token) (n : ℕ) (m : List Token) (k : List Token) (a : TypeTree) (j : List Token) (s : Stop) → name_at ts ≡ Ok (n, m) → expect symbol.Colon m ≡ Ok k → i.type k ≡ Ok (a, j) → Stops s (mapped (TypeTrees.and_type a) (types_at (length j) symbol.Bar i.type j)) → Stops s (lam_at i p ts)
lam_stops_3 i p ts n m k a j s e0 e1 e2 h = rw e0 (rw e1 (rw e2 (stops_under s (TypeTrees.and_type a) (types_at (length j) symbol.Bar i.type j) (λ x. expect symbol.Dot x.1 >>= λ o. mapped (λ t. Tree.lam n (TypeTrees.and_type a x.0) t p) (i.term o)) h)))

pub lam_stops_4 : (i : Inner) (p : Place) (ts : List Token) (n : ℕ) (m : List Token) (k : List Token) (a : TypeTree) (j : List Token) (b : TypeTrees) (l : List Token) (s : Stop) → name_at ts ≡ Ok (n, m) → expect symbol.Colon m ≡ Ok k → i.type k ≡ Ok (a, j) → mapped (TypeTrees.and_type a) (types_at (length j) symbol.Bar i.type j) ≡ Ok (b, l) → Stops s (expect symbol.Dot l) → Stops s (lam_at i p ts)
lam_stops_4 i p ts n m k a j b l s e0 e1 e2 e3 h = rw e0 (rw e1 (rw e2 (bind_stops (TypeTrees.and_type a) (types_at (length j) symbol.Bar i.type j) (λ x. expect symbol.Dot x.1 >>= λ o. mapped (λ t. Tree.lam n (TypeTrees.and_type a x.0) t p) (i.term o)) (λ x. expect symbol.Dot x.1 >>= λ o. mapped (λ t. Tree.lam n x.0 t p) (i.term o)) (b, l) s (λ x. refl) e3 (stops_bind s (expect symbol.Dot l) _ h))))

pub lam_stops_5 : (i : Inner) (p : Place) (ts : List Token) (n : ℕ) (m : List Token) (k : List Token) (a : TypeTree) (j : List Token) (b : TypeTrees) (l : List Token) (o : List Token) (s : Stop) → name_at ts ≡ Ok (n, m) → expect symbol.Colon m ≡ Ok k → i.type k ≡ Ok (a, j) → mapped (TypeTrees.and_type a) (types_at (length j) symbol.Bar i.type j) ≡ Ok (b, l) → expect symbol.Dot l ≡ Ok o → Stops s (i.term o) → Stops s (lam_at i p ts)
lam_stops_5 i p ts n m k a j b l o s e0 e1 e2 e3 e4 h = rw e0 (rw e1 (rw e2 (bind_stops (TypeTrees.and_type a) (types_at (length j) symbol.Bar i.type j) (λ x. expect symbol.Dot x.1 >>= λ o. mapped (λ t. Tree.lam n (TypeTrees.and_type a x.0) t p) (i.term o)) (λ x. expect symbol.Dot x.1 >>= λ o. mapped (λ t. Tree.lam n x.0 t p) (i.term o)) (b, l) s (λ x. refl) e3 (rw e4 (stops_mapped s _ (i.term o) h)))))

pub lam_read : (i : Inner) (p : Place) (ts : List Token) (n : ℕ) (m : List Token) (k : List Token) (a : TypeTree) (j : List Token) (b : TypeTrees) (l : List Token) (o : List Token) (t : Tree) (r : List Token) → name_at ts ≡ Ok (n, m) → expect symbol.Colon m ≡ Ok k → i.type k ≡ Ok (a, j) → mapped (TypeTrees.and_type a) (types_at (length j) symbol.Bar i.type j) ≡ Ok (b, l) → expect symbol.Dot l ≡ Ok o → i.term o ≡ Ok (t, r) → lam_at i p ts ≡ Ok (Tree.lam n b t p, r)
lam_read i p ts n m k a j b l o t r e0 e1 e2 e3 e4 e5 = rw e0 (rw e1 (rw e2 (bind_read (TypeTrees.and_type a) (types_at (length j) symbol.Bar i.type j) (λ x. expect symbol.Dot x.1 >>= λ o. mapped (λ t. Tree.lam n (TypeTrees.and_type a x.0) t p) (i.term o)) (λ x. expect symbol.Dot x.1 >>= λ o. mapped (λ t. Tree.lam n x.0 t p) (i.term o)) (b, l) _ (λ x. refl) e3 (rw e4 (rw e5 refl)))))

pub let_stops_0 : (i : Inner) (p : Place) (ts : List Token) (s : Stop) → Stops s (mapped (def_tree) (def_at i.term ts)) → Stops s (let_at i p ts)
let_stops_0 i p ts s h = stops_under s (def_tree) (def_at i.term ts) (λ x. defs_at (length x.1) i.term x.1 >>= λ y. expect_word word.In y.1 >>= λ z. mapped (λ u. Tree.let_in (Defs.and_def x.0.name x.0.at x.0.body y.0) u p) (i.term z)) h

pub let_stops_1 : (i : Inner) (p : Place) (ts : List Token) (d : DefTree) (m : List Token) (s : Stop) → mapped (def_tree) (def_at i.term ts) ≡ Ok (d, m) → Stops s (mapped (Defs.and_def d.name d.at d.body) (defs_at (length m) i.term m)) → Stops s (let_at i p ts)
let_stops_1 i p ts d m s e0 h = bind_stops (def_tree) (def_at i.term ts) (λ x. defs_at (length x.1) i.term x.1 >>= λ y. expect_word word.In y.1 >>= λ z. mapped (λ u. Tree.let_in (Defs.and_def x.0.name x.0.at x.0.body y.0) u p) (i.term z)) (λ x. defs_at (length x.1) i.term x.1 >>= λ y. expect_word word.In y.1 >>= λ z. mapped (λ u. Tree.let_in (Defs.and_def x.0.name x.0.at x.0.body y.0) u p) (i.term z)) (d, m) s (λ x. refl) e0 (stops_under s (Defs.and_def d.name d.at d.body) (defs_at (length m) i.term m) (λ y. expect_word word.In y.1 >>= λ z. mapped (λ u. Tree.let_in (Defs.and_def d.name d.at d.body y.0) u p) (i.term z)) h)

pub let_stops_2 : (i : Inner) (p : Place) (ts : List Token) (d : DefTree) (m : List Token) (c : Defs) (k : List Token) (s : Stop) → mapped (def_tree) (def_at i.term ts) ≡ Ok (d, m) → mapped (Defs.and_def d.name d.at d.body) (defs_at (length m) i.term m) ≡ Ok (c, k) → Stops s (expect_word word.In k) → Stops s (let_at i p ts)
let_stops_2 i p ts d m c k s e0 e1 h = bind_stops (def_tree) (def_at i.term ts) (λ x. defs_at (length x.1) i.term x.1 >>= λ y. expect_word word.In y.1 >>= λ z. mapped (λ u. Tree.let_in (Defs.and_def x.0.name x.0.at x.0.body y.0) u p) (i.term z)) (λ x. defs_at (length x.1) i.term x.1 >>= λ y. expect_word word.In y.1 >>= λ z. mapped (λ u. Tree.let_in (Defs.and_def x.0.name x.0.at x.0.body y.0) u p) (i.term z)) (d, m) s (λ x. refl) e0 (bind_stops (Defs.and_def d.name d.at d.body) (defs_at (length m) i.term m) (λ y. expect_word word.In y.1 >>= λ z. mapped (λ u. Tree.let_in (Defs.and_def d.name d.at d.body y.0) u p) (i.term z)) (λ y. expect_word word.In y.1 >>= λ z. mapped (λ u. Tree.let_in y.0 u p) (i.term z)) (c, k) s (λ x. refl) e1 (stops_bind s (expect_word word.In k) _ h))

pub let_stops_3 : (i : Inner) (p : Place) (ts : List Token) (d : DefTree) (m : List Token) (c : Defs) (k : List Token) (j : List Token) (s : Stop) → mapped (def_tree) (def_at i.term ts) ≡ Ok (d, m) → mapped (Defs.and_def d.name d.at d.body) (defs_at (length m) i.term m) ≡ Ok (c, k) → expect_word word.In k ≡ Ok j → Stops s (i.term j) → Stops s (let_at i p ts)
let_stops_3 i p ts d m c k j s e0 e1 e2 h = bind_stops (def_tree) (def_at i.term ts) (λ x. defs_at (length x.1) i.term x.1 >>= λ y. expect_word word.In y.1 >>= λ z. mapped (λ u. Tree.let_in (Defs.and_def x.0.name x.0.at x.0.body y.0) u p) (i.term z)) (λ x. defs_at (length x.1) i.term x.1 >>= λ y. expect_word word.In y.1 >>= λ z. mapped (λ u. Tree.let_in (Defs.and_def x.0.name x.0.at x.0.body y.0) u p) (i.term z)) (d, m) s (λ x. refl) e0 (bind_stops (Defs.and_def d.name d.at d.body) (defs_at (length m) i.term m) (λ y. expect_word word.In y.1 >>= λ z. mapped (λ u. Tree.let_in (Defs.and_def d.name d.at d.body y.0) u p) (i.term z)) (λ y. expect_word word.In y.1 >>= λ z. mapped (λ u. Tree.let_in y.0 u p) (i.term z)) (c, k) s (λ x. refl) e1 (rw e2 (stops_mapped s _ (i.term j) h)))

pub let_read : (i : Inner) (p : Place) (ts : List Token) (d : DefTree) (m : List Token) (c : Defs) (k : List Token) (j : List Token) (t : Tree) (r : List Token) → mapped (def_tree) (def_at i.term ts) ≡ Ok (d, m) → mapped (Defs.and_def d.name d.at d.body) (defs_at (length m) i.term m) ≡ Ok (c, k) → expect_word word.In k ≡ Ok j → i.term j ≡ Ok (t, r) → let_at i p ts ≡ Ok (Tree.let_in c t p, r)
let_read i p ts d m c k j t r e0 e1 e2 e3 = bind_read (def_tree) (def_at i.term ts) (λ x. defs_at (length x.1) i.term x.1 >>= λ y. expect_word word.In y.1 >>= λ z. mapped (λ u. Tree.let_in (Defs.and_def x.0.name x.0.at x.0.body y.0) u p) (i.term z)) (λ x. defs_at (length x.1) i.term x.1 >>= λ y. expect_word word.In y.1 >>= λ z. mapped (λ u. Tree.let_in (Defs.and_def x.0.name x.0.at x.0.body y.0) u p) (i.term z)) (d, m) _ (λ x. refl) e0 (bind_read (Defs.and_def d.name d.at d.body) (defs_at (length m) i.term m) (λ y. expect_word word.In y.1 >>= λ z. mapped (λ u. Tree.let_in (Defs.and_def d.name d.at d.body y.0) u p) (i.term z)) (λ y. expect_word word.In y.1 >>= λ z. mapped (λ u. Tree.let_in y.0 u p) (i.term z)) (c, k) _ (λ x. refl) e1 (rw e2 (rw e3 refl)))

pub letrec_stops_0 : (i : Inner) (p : Place) (ts : List Token) (s : Stop) → Stops s (decl_at i.type ts) → Stops s (letrec_at i p ts)
letrec_stops_0 i p ts s h = stops_bind s (decl_at i.type ts) _ h

pub letrec_stops_1 : (i : Inner) (p : Place) (ts : List Token) (a : DeclTree) (m : List Token) (s : Stop) → decl_at i.type ts ≡ Ok (a, m) → Stops s (mapped (λ more. a ∷ more) (decls_at (length m) i.type m)) → Stops s (letrec_at i p ts)
letrec_stops_1 i p ts a m s e0 h = rw e0 (stops_under s (λ more. a ∷ more) (decls_at (length m) i.type m) (λ w. expect_word word.Where w.1 >>= λ v. def_at i.term v >>= λ x. defs_at (length x.1) i.term x.1 >>= λ y. expect_word word.In y.1 >>= λ z. mapped (λ u. Tree.letrec (a ∷ w.0) (Defs.and_def x.0.name x.0.at x.0.body y.0) (front y.1) u p) (i.term z)) h)

pub letrec_stops_2 : (i : Inner) (p : Place) (ts : List Token) (a : DeclTree) (m : List Token) (b : List DeclTree) (k : List Token) (s : Stop) → decl_at i.type ts ≡ Ok (a, m) → mapped (λ more. a ∷ more) (decls_at (length m) i.type m) ≡ Ok (b, k) → Stops s (expect_word word.Where k) → Stops s (letrec_at i p ts)
letrec_stops_2 i p ts a m b k s e0 e1 h = rw e0 (bind_stops (λ more. a ∷ more) (decls_at (length m) i.type m) (λ w. expect_word word.Where w.1 >>= λ v. def_at i.term v >>= λ x. defs_at (length x.1) i.term x.1 >>= λ y. expect_word word.In y.1 >>= λ z. mapped (λ u. Tree.letrec (a ∷ w.0) (Defs.and_def x.0.name x.0.at x.0.body y.0) (front y.1) u p) (i.term z)) (λ w. expect_word word.Where w.1 >>= λ v. def_at i.term v >>= λ x. defs_at (length x.1) i.term x.1 >>= λ y. expect_word word.In y.1 >>= λ z. mapped (λ u. Tree.letrec w.0 (Defs.and_def x.0.name x.0.at x.0.body y.0) (front y.1) u p) (i.term z)) (b, k) s (λ x. refl) e1 (stops_bind s (expect_word word.Where k) _ h))

pub letrec_stops_3 : (i : Inner) (p : Place) (ts : List Token) (a : DeclTree) (m : List Token) (b : List DeclTree) (k : List Token) (j : List Token) (s : Stop) → decl_at i.type ts ≡ Ok (a, m) → mapped (λ more. a ∷ more) (decls_at (length m) i.type m) ≡ Ok (b, k) → expect_word word.Where k ≡ Ok j → Stops s (mapped (def_tree) (def_at i.term j)) → Stops s (letrec_at i p ts)
letrec_stops_3 i p ts a m b k j s e0 e1 e2 h = rw e0 (bind_stops (λ more. a ∷ more) (decls_at (length m) i.type m) (λ w. expect_word word.Where w.1 >>= λ v. def_at i.term v >>= λ x. defs_at (length x.1) i.term x.1 >>= λ y. expect_word word.In y.1 >>= λ z. mapped (λ u. Tree.letrec (a ∷ w.0) (Defs.and_def x.0.name x.0.at x.0.body y.0) (front y.1) u p) (i.term z)) (λ w. expect_word word.Where w.1 >>= λ v. def_at i.term v >>= λ x. defs_at (length x.1) i.term x.1 >>= λ y. expect_word word.In y.1 >>= λ z. mapped (λ u. Tree.letrec w.0 (Defs.and_def x.0.name x.0.at x.0.body y.0) (front y.1) u p) (i.term z)) (b, k) s (λ x. refl) e1 (rw e2 (stops_under s (def_tree) (def_at i.term j) (λ x. defs_at (length x.1) i.term x.1 >>= λ y. expect_word word.In y.1 >>= λ z. mapped (λ u. Tree.letrec b (Defs.and_def x.0.name x.0.at x.0.body y.0) (front y.1) u p) (i.term z)) h)))

pub letrec_stops_4 : (i : Inner) (p : Place) (ts : List Token) (a : DeclTree) (m : List Token) (b : List DeclTree) (k : List Token) (j : List Token) (d : DefTree) (l : List Token) (s : Stop) → decl_at i.type ts ≡ Ok (a, m) → mapped (λ more. a ∷ more) (decls_at (length m) i.type m) ≡ Ok (b, k) → expect_word word.Where k ≡ Ok j → mapped (def_tree) (def_at i.term j) ≡ Ok (d, l) → Stops s (mapped (Defs.and_def d.name d.at d.body) (defs_at (length l) i.term l)) → Stops s (letrec_at i p ts)
letrec_stops_4 i p ts a m b k j d l s e0 e1 e2 e3 h = rw e0 (bind_stops (λ more. a ∷ more) (decls_at (length m) i.type m) (λ w. expect_word word.Where w.1 >>= λ v. def_at i.term v >>= λ x. defs_at (length x.1) i.term x.1 >>= λ y. expect_word word.In y.1 >>= λ z. mapped (λ u. Tree.letrec (a ∷ w.0) (Defs.and_def x.0.name x.0.at x.0.body y.0) (front y.1) u p) (i.term z)) (λ w. expect_word word.Where w.1 >>= λ v. def_at i.term v >>= λ x. defs_at (length x.1) i.term x.1 >>= λ y. expect_word word.In y.1 >>= λ z. mapped (λ u. Tree.letrec w.0 (Defs.and_def x.0.name x.0.at x.0.body y.0) (front y.1) u p) (i.term z)) (b, k) s (λ x. refl) e1 (rw e2 (bind_stops (def_tree) (def_at i.term j) (λ x. defs_at (length x.1) i.term x.1 >>= λ y. expect_word word.In y.1 >>= λ z. mapped (λ u. Tree.letrec b (Defs.and_def x.0.name x.0.at x.0.body y.0) (front y.1) u p) (i.term z)) (λ x. defs_at (length x.1) i.term x.1 >>= λ y. expect_word word.In y.1 >>= λ z. mapped (λ u. Tree.letrec b (Defs.and_def x.0.name x.0.at x.0.body y.0) (front y.1) u p) (i.term z)) (d, l) s (λ x. refl) e3 (stops_under s (Defs.and_def d.name d.at d.body) (defs_at (length l) i.term l) (λ y. expect_word word.In y.1 >>= λ z. mapped (λ u. Tree.letrec b (Defs.and_def d.name d.at d.body y.0) (front y.1) u p) (i.term z)) h))))

pub letrec_stops_5 : (i : Inner) (p : Place) (ts : List Token) (a : DeclTree) (m : List Token) (b : List DeclTree) (k : List Token) (j : List Token) (d : DefTree) (l : List Token) (c : Defs) (o : List Token) (s : Stop) → decl_at i.type ts ≡ Ok (a, m) → mapped (λ more. a ∷ more) (decls_at (length m) i.type m) ≡ Ok (b, k) → expect_word word.Where k ≡ Ok j → mapped (def_tree) (def_at i.term j) ≡ Ok (d, l) → mapped (Defs.and_def d.name d.at d.body) (defs_at (length l) i.term l) ≡ Ok (c, o) → Stops s (expect_word word.In o) → Stops s (letrec_at i p ts)
letrec_stops_5 i p ts a m b k j d l c o s e0 e1 e2 e3 e4 h = rw e0 (bind_stops (λ more. a ∷ more) (decls_at (length m) i.type m) (λ w. expect_word word.Where w.1 >>= λ v. def_at i.term v >>= λ x. defs_at (length x.1) i.term x.1 >>= λ y. expect_word word.In y.1 >>= λ z. mapped (λ u. Tree.letrec (a ∷ w.0) (Defs.and_def x.0.name x.0.at x.0.body y.0) (front y.1) u p) (i.term z)) (λ w. expect_word word.Where w.1 >>= λ v. def_at i.term v >>= λ x. defs_at (length x.1) i.term x.1 >>= λ y. expect_word word.In y.1 >>= λ z. mapped (λ u. Tree.letrec w.0 (Defs.and_def x.0.name x.0.at x.0.body y.0) (front y.1) u p) (i.term z)) (b, k) s (λ x. refl) e1 (rw e2 (bind_stops (def_tree) (def_at i.term j) (λ x. defs_at (length x.1) i.term x.1 >>= λ y. expect_word word.In y.1 >>= λ z. mapped (λ u. Tree.letrec b (Defs.and_def x.0.name x.0.at x.0.body y.0) (front y.1) u p) (i.term z)) (λ x. defs_at (length x.1) i.term x.1 >>= λ y. expect_word word.In y.1 >>= λ z. mapped (λ u. Tree.letrec b (Defs.and_def x.0.name x.0.at x.0.body y.0) (front y.1) u p) (i.term z)) (d, l) s (λ x. refl) e3 (bind_stops (Defs.and_def d.name d.at d.body) (defs_at (length l) i.term l) (λ y. expect_word word.In y.1 >>= λ z. mapped (λ u. Tree.letrec b (Defs.and_def d.name d.at d.body y.0) (front y.1) u p) (i.term z)) (λ y. expect_word word.In y.1 >>= λ z. mapped (λ u. Tree.letrec b y.0 (front y.1) u p) (i.term z)) (c, o) s (λ x. refl) e4 (stops_bind s (expect_word word.In o) _ h)))))

pub letrec_stops_6 : (i : Inner) (p : Place) (ts : List Token) (a : DeclTree) (m : List Token) (b : List DeclTree) (k : List Token) (j : List Token) (d : DefTree) (l : List Token) (c : Defs) (o : List Token) (q : List Token) (s : Stop) → decl_at i.type ts ≡ Ok (a, m) → mapped (λ more. a ∷ more) (decls_at (length m) i.type m) ≡ Ok (b, k) → expect_word word.Where k ≡ Ok j → mapped (def_tree) (def_at i.term j) ≡ Ok (d, l) → mapped (Defs.and_def d.name d.at d.body) (defs_at (length l) i.term l) ≡ Ok (c, o) → expect_word word.In o ≡ Ok q → Stops s (i.term q) → Stops s (letrec_at i p ts)
letrec_stops_6 i p ts a m b k j d l c o q s e0 e1 e2 e3 e4 e5 h = rw e0 (bind_stops (λ more. a ∷ more) (decls_at (length m) i.type m) (λ w. expect_word word.Where w.1 >>= λ v. def_at i.term v >>= λ x. defs_at (length x.1) i.term x.1 >>= λ y. expect_word word.In y.1 >>= λ z. mapped (λ u. Tree.letrec (a ∷ w.0) (Defs.and_def x.0.name x.0.at x.0.body y.0) (front y.1) u p) (i.term z)) (λ w. expect_word word.Where w.1 >>= λ v. def_at i.term v >>= λ x. defs_at (length x.1) i.term x.1 >>= λ y. expect_word word.In y.1 >>= λ z. mapped (λ u. Tree.letrec w.0 (Defs.and_def x.0.name x.0.at x.0.body y.0) (front y.1) u p) (i.term z)) (b, k) s (λ x. refl) e1 (rw e2 (bind_stops (def_tree) (def_at i.term j) (λ x. defs_at (length x.1) i.term x.1 >>= λ y. expect_word word.In y.1 >>= λ z. mapped (λ u. Tree.letrec b (Defs.and_def x.0.name x.0.at x.0.body y.0) (front y.1) u p) (i.term z)) (λ x. defs_at (length x.1) i.term x.1 >>= λ y. expect_word word.In y.1 >>= λ z. mapped (λ u. Tree.letrec b (Defs.and_def x.0.name x.0.at x.0.body y.0) (front y.1) u p) (i.term z)) (d, l) s (λ x. refl) e3 (bind_stops (Defs.and_def d.name d.at d.body) (defs_at (length l) i.term l) (λ y. expect_word word.In y.1 >>= λ z. mapped (λ u. Tree.letrec b (Defs.and_def d.name d.at d.body y.0) (front y.1) u p) (i.term z)) (λ y. expect_word word.In y.1 >>= λ z. mapped (λ u. Tree.letrec b y.0 (front y.1) u p) (i.term z)) (c, o) s (λ x. refl) e4 (rw e5 (stops_mapped s _ (i.term q) h))))))

pub letrec_read : (i : Inner) (p : Place) (ts : List Token) (a : DeclTree) (m : List Token) (b : List DeclTree) (k : List Token) (j : List Token) (d : DefTree) (l : List Token) (c : Defs) (o : List Token) (q : List Token) (t : Tree) (r : List Token) → decl_at i.type ts ≡ Ok (a, m) → mapped (λ more. a ∷ more) (decls_at (length m) i.type m) ≡ Ok (b, k) → expect_word word.Where k ≡ Ok j → mapped (def_tree) (def_at i.term j) ≡ Ok (d, l) → mapped (Defs.and_def d.name d.at d.body) (defs_at (length l) i.term l) ≡ Ok (c, o) → expect_word word.In o ≡ Ok q → i.term q ≡ Ok (t, r) → letrec_at i p ts ≡ Ok (Tree.letrec b c (front o) t p, r)
letrec_read i p ts a m b k j d l c o q t r e0 e1 e2 e3 e4 e5 e6 = rw e0 (bind_read (λ more. a ∷ more) (decls_at (length m) i.type m) (λ w. expect_word word.Where w.1 >>= λ v. def_at i.term v >>= λ x. defs_at (length x.1) i.term x.1 >>= λ y. expect_word word.In y.1 >>= λ z. mapped (λ u. Tree.letrec (a ∷ w.0) (Defs.and_def x.0.name x.0.at x.0.body y.0) (front y.1) u p) (i.term z)) (λ w. expect_word word.Where w.1 >>= λ v. def_at i.term v >>= λ x. defs_at (length x.1) i.term x.1 >>= λ y. expect_word word.In y.1 >>= λ z. mapped (λ u. Tree.letrec w.0 (Defs.and_def x.0.name x.0.at x.0.body y.0) (front y.1) u p) (i.term z)) (b, k) _ (λ x. refl) e1 (rw e2 (bind_read (def_tree) (def_at i.term j) (λ x. defs_at (length x.1) i.term x.1 >>= λ y. expect_word word.In y.1 >>= λ z. mapped (λ u. Tree.letrec b (Defs.and_def x.0.name x.0.at x.0.body y.0) (front y.1) u p) (i.term z)) (λ x. defs_at (length x.1) i.term x.1 >>= λ y. expect_word word.In y.1 >>= λ z. mapped (λ u. Tree.letrec b (Defs.and_def x.0.name x.0.at x.0.body y.0) (front y.1) u p) (i.term z)) (d, l) _ (λ x. refl) e3 (bind_read (Defs.and_def d.name d.at d.body) (defs_at (length l) i.term l) (λ y. expect_word word.In y.1 >>= λ z. mapped (λ u. Tree.letrec b (Defs.and_def d.name d.at d.body y.0) (front y.1) u p) (i.term z)) (λ y. expect_word word.In y.1 >>= λ z. mapped (λ u. Tree.letrec b y.0 (front y.1) u p) (i.term z)) (c, o) _ (λ x. refl) e4 (rw e5 (rw e6 refl))))))

pub seq_stops_0 : (i : Inner) (ts : List Token) (s : Stop) → Stops s (expect symbol.OpenParen (behind ts)) → Stops s (seq_at i ts)
seq_stops_0 i ts s h = stops_bind s (expect symbol.OpenParen (behind ts)) _ h

pub seq_stops_1 : (i : Inner) (ts : List Token) (m : List Token) (s : Stop) → expect symbol.OpenParen (behind ts) ≡ Ok m → Stops s (i.term m) → Stops s (seq_at i ts)
seq_stops_1 i ts m s e0 h = rw e0 (stops_bind s (i.term m) _ h)

pub seq_stops_2 : (i : Inner) (ts : List Token) (m : List Token) (a : Tree) (j : List Token) (s : Stop) → expect symbol.OpenParen (behind ts) ≡ Ok m → i.term m ≡ Ok (a, j) → Stops s (mapped (Trees.and_tree a) (trees_at (length j) symbol.Comma i.term j)) → Stops s (seq_at i ts)
seq_stops_2 i ts m a j s e0 e1 h = rw e0 (rw e1 (stops_under s (Trees.and_tree a) (trees_at (length j) symbol.Comma i.term j) (λ y. expect symbol.CloseParen y.1 >>= λ z. Ok (Tree.seq_of (Trees.and_tree a y.0) (front ts), z)) h))

pub seq_stops_3 : (i : Inner) (ts : List Token) (m : List Token) (a : Tree) (j : List Token) (b : Trees) (k : List Token) (s : Stop) → expect symbol.OpenParen (behind ts) ≡ Ok m → i.term m ≡ Ok (a, j) → mapped (Trees.and_tree a) (trees_at (length j) symbol.Comma i.term j) ≡ Ok (b, k) → Stops s (expect symbol.CloseParen k) → Stops s (seq_at i ts)
seq_stops_3 i ts m a j b k s e0 e1 e2 h = rw e0 (rw e1 (bind_stops (Trees.and_tree a) (trees_at (length j) symbol.Comma i.term j) (λ y. expect symbol.CloseParen y.1 >>= λ z. Ok (Tree.seq_of (Trees.and_tree a y.0) (front ts), z)) (λ y. expect symbol.CloseParen y.1 >>= λ z. Ok (Tree.seq_of y.0 (front ts), z)) (b, k) s (λ x. refl) e2 (stops_bind s (expect symbol.CloseParen k) _ h)))

pub seq_read : (i : Inner) (ts : List Token) (m : List Token) (a : Tree) (j : List Token) (b : Trees) (k : List Token) (r : List Token) → expect symbol.OpenParen (behind ts) ≡ Ok m → i.term m ≡ Ok (a, j) → mapped (Trees.and_tree a) (trees_at (length j) symbol.Comma i.term j) ≡ Ok (b, k) → expect symbol.CloseParen k ≡ Ok r → seq_at i ts ≡ Ok (Tree.seq_of b (front ts), r)
seq_read i ts m a j b k r e0 e1 e2 e3 = rw e0 (rw e1 (bind_read (Trees.and_tree a) (trees_at (length j) symbol.Comma i.term j) (λ y. expect symbol.CloseParen y.1 >>= λ z. Ok (Tree.seq_of (Trees.and_tree a y.0) (front ts), z)) (λ y. expect symbol.CloseParen y.1 >>= λ z. Ok (Tree.seq_of y.0 (front ts), z)) (b, k) _ (λ x. refl) e2 (rw e3 refl)))

-- the steps of each form
pub ruleset lam_steps = (lam_stops_0, lam_stops_1, lam_stops_2, lam_stops_3, lam_stops_4, lam_stops_5, lam_read)

pub ruleset let_steps = (let_stops_0, let_stops_1, let_stops_2, let_stops_3, let_read)

pub ruleset letrec_steps = (letrec_stops_0, letrec_stops_1, letrec_stops_2, letrec_stops_3, letrec_stops_4, letrec_stops_5, letrec_stops_6, letrec_read)

pub ruleset seq_steps = (seq_stops_0, seq_stops_1, seq_stops_2, seq_stops_3, seq_read)
