-- A source says one thing, or is refused for one reason.
use Rattle.std.proofs.Common.{◌≡◌, ℕ, List, [], ◌∷◌, ◌++◌, length, refl, sym, ap, ap₂, ◌∙◌, subst}
use Rattle.std.specs.Prelude.{Option, Some, None, Result, Ok, Err}
use Rattle.fy_base.specs.Outside.{Bytes}
use Rattle.fy_base.specs.declared.data.Place.{Place}
use Rattle.fy_types.specs.Types.{PlainType}
use Rattle.fy_lexer.specs.declared.token.Token.{Token}
use Rattle.fy_lexer.proofs.UniqueLemmas.{tokens_same, faults_same, tokens_or_fault}
use Rattle.fy_syntax.specs.Trees as written
use Rattle.fy_syntax.specs.Signs.{front}
use Rattle.fy_places.proofs.OnePlace.{syntax_unique, depth_unique, syntax_or_depth, program_not_bad}
use Rattle.fy_grammar.specs.declared.error.ParseError.{ParseError}
use Rattle.fy_grammar.specs.declared.error.ParseError.TheVariants as unparsed
use Rattle.fy_grammar.specs.Program.{IsTheProgram, IsRefusal, deepest}
use Rattle.fy_phrase.specs.Tree.{Tree}
use Rattle.fy_expand.specs.declared.error.ExpandError.{ExpandError}
use Rattle.fy_expand.specs.Expansion.{core_of}
use Rattle.fy_front.specs.Checked.{lex_refusal, parse_refusal, expand_refusal, Means, IsMeaningless}
use Rattle.fy_front.specs.declared.refusal.Refusal.{Refusal}
use Rattle.fy_front.specs.declared.refusal.Refusal.TheVariants as refusal
use Rattle.fy_front.proofs.Checking.{lex_told, told_one}
use Rattle.fy_link.specs.Header.{PlainPiece, PlainHeader, header_of, pieces_in, type_program, unit_program}
use Rattle.fy_link.specs.Sources.{Named, PlainSource, Names, NameAll, IsLexed, IsTypeFault, IsSaid, IsSaidFault, IsSource, IsSourceFault, below_abstractions, domain_of, without_prelude}
use Rattle.fy_link.proofs.NamingLemmas.{named-push}
use Rattle.fy_link.proofs.SameSources.{headed-same}

-- ---- programs

ok-same : (x : Result Tree ExpandError) (p q : Tree) → x ≡ Ok p → x ≡ Ok q → p ≡ q
ok-same x p q h k = cc

err-same : (x : Result Tree ExpandError) (e f : ExpandError) → x ≡ Err e → x ≡ Err f → e ≡ f
err-same x e f h k = cc

ok-or-err : (x : Result Tree ExpandError) (p : Tree) (e : ExpandError) → x ≡ Ok p → x ≡ Err e → ⊥
ok-or-err x p e h k = cc

means-same : (ts : List Token) (p q : Tree) → Means ts p → Means ts q → p ≡ q
means-same ts p q h k = ok-same (core_of k.tree) p q (ap core_of (sym (k.program.only h.tree h.program.spelled)) ∙ h.core) k.core

program-or-refusal : (ts : List Token) (t : written.Tree) (x : ParseError) (e : Refusal) → parse_refusal x ≡ Some e → IsTheProgram ts t → IsRefusal ts x → ⊥
program-or-refusal ts t (unparsed.Syntax at) e m h k = program_not_bad deepest ts k.before k.bad t h.spelled h.within k.first
program-or-refusal ts t (unparsed.TooDeep at) e m h k = program_not_bad deepest ts k.before k.bad t h.spelled h.within k.first
program-or-refusal ts t unparsed.OutOfMemory e m h k = cc

refusals-same : (ts : List Token) (x y : ParseError) (e f : Refusal) → parse_refusal x ≡ Some e → parse_refusal y ≡ Some f → IsRefusal ts x → IsRefusal ts y → e ≡ f
refusals-same ts (unparsed.Syntax at) (unparsed.Syntax to) e f m n h k =
    told_one parse_refusal (unparsed.Syntax at) (unparsed.Syntax to) e f (ap unparsed.Syntax (syntax_unique deepest ts at to h k)) m n
refusals-same ts (unparsed.Syntax at) (unparsed.TooDeep to) e f m n h k = absurd (syntax_or_depth deepest ts at to h k)
refusals-same ts (unparsed.TooDeep at) (unparsed.Syntax to) e f m n h k = absurd (syntax_or_depth deepest ts to at k h)
refusals-same ts (unparsed.TooDeep at) (unparsed.TooDeep to) e f m n h k =
    told_one parse_refusal (unparsed.TooDeep at) (unparsed.TooDeep to) e f (ap unparsed.TooDeep (depth_unique deepest ts at to h k)) m n
refusals-same ts unparsed.OutOfMemory y e f m n h k = absurd cc
refusals-same ts x unparsed.OutOfMemory e f m n h k = absurd cc

means-or-not : (ts : List Token) (p : Tree) (e : Refusal) → Means ts p → IsMeaningless ts e → ⊥
means-or-not ts p e h (IsMeaningless.no_program x k m) = program-or-refusal ts h.tree x e m h.program k
means-or-not ts p e h (IsMeaningless.no_core {tree = t} x k c m) = ok-or-err (core_of t) p x (ap core_of (sym (k.only h.tree h.program.spelled)) ∙ h.core) c

meaningless-same : (ts : List Token) (e f : Refusal) → IsMeaningless ts e → IsMeaningless ts f → e ≡ f
meaningless-same ts e f (IsMeaningless.no_program x h m) (IsMeaningless.no_program y k n) = refusals-same ts x y e f m n h k
meaningless-same ts e f (IsMeaningless.no_program x h m) (IsMeaningless.no_core {tree = u} y k d n) = absurd (program-or-refusal ts u x e m k h)
meaningless-same ts e f (IsMeaningless.no_core {tree = t} x h c m) (IsMeaningless.no_program y k n) = absurd (program-or-refusal ts t y f n h k)
meaningless-same ts e f (IsMeaningless.no_core {tree = t} x h c m) (IsMeaningless.no_core {tree = u} y k d n) =
    told_one expand_refusal x y e f (err-same (core_of u) x y (ap core_of (sym (k.only t h.spelled)) ∙ c) d) m n

-- ---- pieces

named-equal : (n m : Named) → n.name ≡ m.name → n.type ≡ m.type → n ≡ m
named-equal n m e f = let made : ℕ → PlainType → Named = λ k A. record { name = k; type = A } in ap₂ made e f

names-same : (at : Place) (x : PlainPiece) (n m : Named) → Names at x n → Names at x m → n ≡ m
names-same at x n m h k =
    named-equal n m (h.name ∙ sym k.name)
    (h.type ∙ (ap (λ (p : Tree). domain_of (without_prelude p)) (means-same (type_program at x) h.phrase k.phrase h.means k.means) ∙ sym k.type))

all-same : (at : Place) (xs : List PlainPiece) (ns ms : List Named) → NameAll at xs ns → NameAll at xs ms → ns ≡ ms
all-same at [] [] [] h k = refl
all-same at [] (n ∷ ns) ms h k = absurd h
all-same at [] [] (m ∷ ms) h k = absurd k
all-same at (x ∷ xs) [] ms h k = absurd h
all-same at (x ∷ xs) (n ∷ ns) [] h k = absurd k
all-same at (x ∷ xs) (n ∷ ns) (m ∷ ms) h k =
    ap (λ (l : Named). l ∷ ns) (names-same at x n m h.0 k.0) ∙ ap (λ (ls : List Named). m ∷ ls) (all-same at xs ns ms h.1 k.1)

-- where a piece among others is named, its type isn't refused
named-or-fault : (at : Place) (before behind : List PlainPiece) (x : PlainPiece) (ns : List Named) (e : Refusal) → NameAll at (before ++ x ∷ behind) ns →
    IsMeaningless (type_program at x) e → ⊥
named-or-fault at [] behind x [] e h f = h
named-or-fault at [] behind x (n ∷ ns) e h f = means-or-not (type_program at x) h.0.phrase e h.0.means f
named-or-fault at (y ∷ before) behind x [] e h f = h
named-or-fault at (y ∷ before) behind x (n ∷ ns) e h f = named-or-fault at before behind x ns e h.1 f

all-or-fault : (at : Place) (xs : List PlainPiece) (ns : List Named) (e : Refusal) → NameAll at xs ns → IsTypeFault at xs e → ⊥
all-or-fault at xs ns e h f = named-or-fault at f.before f.behind f.x ns e (subst (λ (l : List PlainPiece). NameAll at l ns) f.is h) f.why

-- the first piece whose type is refused is one
faults-at : (at : Place) (before other bs cs : List PlainPiece) (x y : PlainPiece) (ns ms : List Named) (e f : Refusal) →
    before ++ x ∷ bs ≡ other ++ y ∷ cs → NameAll at before ns → NameAll at other ms → IsMeaningless (type_program at x) e →
    IsMeaningless (type_program at y) f → e ≡ f
faults-at at [] [] bs cs x y ns ms e f is h k v w =
    let same : x ≡ y = cc in
    meaningless-same (type_program at y) e f (subst (λ (z : PlainPiece). IsMeaningless (type_program at z) e) same v) w
faults-at at [] (z ∷ other) bs cs x y ns ms e f is h k v w =
    absurd (named-or-fault at [] other x ms e (subst (λ (l : List PlainPiece). NameAll at l ms) (first z x bs (other ++ y ∷ cs) other is) k) v)
  where
    first : (z x : PlainPiece) (bs rest other : List PlainPiece) → x ∷ bs ≡ z ∷ rest → z ∷ other ≡ x ∷ other
    first z x bs rest other e = cc
faults-at at (z ∷ before) [] bs cs x y ns ms e f is h k v w =
    absurd (named-or-fault at [] before y ns f (subst (λ (l : List PlainPiece). NameAll at l ns) (first z y cs (before ++ x ∷ bs) before is) h) w)
  where
    first : (z y : PlainPiece) (cs rest before : List PlainPiece) → z ∷ rest ≡ y ∷ cs → z ∷ before ≡ y ∷ before
    first z y cs rest before e = cc
faults-at at (z ∷ before) (u ∷ other) bs cs x y [] ms e f is h k v w = absurd h
faults-at at (z ∷ before) (u ∷ other) bs cs x y (n ∷ ns) [] e f is h k v w = absurd k
faults-at at (z ∷ before) (u ∷ other) bs cs x y (n ∷ ns) (m ∷ ms) e f is h k v w =
    let rest : before ++ x ∷ bs ≡ other ++ y ∷ cs = cc in
    faults-at at before other bs cs x y ns ms e f rest h.1 k.1 v w

type-faults-same : (at : Place) (xs : List PlainPiece) (e f : Refusal) → IsTypeFault at xs e → IsTypeFault at xs f → e ≡ f
type-faults-same at xs e f h k =
    faults-at at h.before k.before h.behind k.behind h.x k.x h.known k.known e f (sym h.is ∙ k.is) h.named k.named h.why k.why

-- ---- behind the header

source-equal : (u v : PlainSource) → u.imports ≡ v.imports → u.own ≡ v.own → u.phrase ≡ v.phrase → u ≡ v
source-equal u v e f g =
    let made : List Named → Named → Tree → PlainSource = λ is own p. record { imports = is; own = own; phrase = p } in
    ap₂ (λ is own. made is own u.phrase) e f ∙ ap (made v.imports v.own) g

said-same : (at : Place) (header : PlainHeader) (u v : PlainSource) → IsSaid at header u → IsSaid at header v → u ≡ v
said-same at header u v h k =
    let imports = all-same at header.imports u.imports v.imports h.imports k.imports in
    let whole = means-same (unit_program at header) h.whole k.whole h.means k.means in
    source-equal u v imports (names-same at header.own u.own v.own h.own k.own)
    (h.phrase ∙ (ap (λ (is : List Named). below_abstractions (length is) (without_prelude h.whole)) imports
    ∙ (ap (λ (p : Tree). below_abstractions (length v.imports) (without_prelude p)) whole ∙ sym k.phrase)))

said-or-fault : (at : Place) (header : PlainHeader) (u : PlainSource) (e : Refusal) → IsSaid at header u → IsSaidFault at header e → ⊥
said-or-fault at header u e h (IsSaidFault.of_type f) =
    all-or-fault at (pieces_in header) (u.imports ++ u.own ∷ []) e (named-push at header.imports u.imports header.own u.own h.imports h.own) f
said-or-fault at header u e h (IsSaidFault.of_tail known x all f m) = program-or-refusal header.tail h.alone x e m h.program f
said-or-fault at header u e h (IsSaidFault.of_phrase known all alone f) = means-or-not (unit_program at header) h.whole e h.means f

said-faults-same : (at : Place) (header : PlainHeader) (e f : Refusal) → IsSaidFault at header e → IsSaidFault at header f → e ≡ f
said-faults-same at header e f (IsSaidFault.of_type h) (IsSaidFault.of_type k) = type-faults-same at (pieces_in header) e f h k
said-faults-same at header e f (IsSaidFault.of_type h) (IsSaidFault.of_tail known y all k n) = absurd (all-or-fault at (pieces_in header) known e all h)
said-faults-same at header e f (IsSaidFault.of_type h) (IsSaidFault.of_phrase known all alone k) = absurd (all-or-fault at (pieces_in header) known e all h)
said-faults-same at header e f (IsSaidFault.of_tail known x all h m) (IsSaidFault.of_type k) = absurd (all-or-fault at (pieces_in header) known f all k)
said-faults-same at header e f (IsSaidFault.of_tail known x all h m) (IsSaidFault.of_tail others y every k n) = refusals-same header.tail x y e f m n h k
said-faults-same at header e f (IsSaidFault.of_tail known x all h m) (IsSaidFault.of_phrase others {alone = t} every alone k) =
    absurd (program-or-refusal header.tail t x e m alone h)
said-faults-same at header e f (IsSaidFault.of_phrase known all alone h) (IsSaidFault.of_type k) = absurd (all-or-fault at (pieces_in header) known f all k)
said-faults-same at header e f (IsSaidFault.of_phrase known {alone = t} all alone h) (IsSaidFault.of_tail others y every k n) =
    absurd (program-or-refusal header.tail t y f n alone k)
said-faults-same at header e f (IsSaidFault.of_phrase known all alone h) (IsSaidFault.of_phrase others every other k) =
    meaningless-same (unit_program at header) e f h k

-- ---- sources

-- one list of names, and one source
pub record IsSameSource (after last : List Bytes) (u v : PlainSource) : Type 0 where
  pub one_after : after ≡ last
  pub one_source : u ≡ v

pub source-same : (names after last : List Bytes) (source : Bytes) (u v : PlainSource) → IsSource names source after u → IsSource names source last v → IsSameSource after last u v
source-same names after last source u v h k =
    let same = headed-same names source after last h.tokens k.tokens h.header k.header h.headed k.headed in
    let one : IsSaid (front h.tokens) k.header u = subst (λ (x : PlainHeader). IsSaid (front h.tokens) x u) same.one_header h.said in
    let there : IsSaid (front k.tokens) k.header u = subst (λ (ts : List Token). IsSaid (front ts) k.header u) same.one_list one in
    record { one_after = same.one_after; one_source = said-same (front k.tokens) k.header u v there k.said }

lexed-same : (names after last : List Bytes) (source : Bytes) (ts us : List Token) → IsLexed names source ts after → IsLexed names source us last → ts ≡ us
lexed-same names after last source ts us h k = (tokens_same names source ts us after last h.read k.read).0

no-header : (o : Option PlainHeader) (header : PlainHeader) → o ≡ None → o ≡ Some header → ⊥
no-header o header e f = cc

pub source-or-fault : (names after : List Bytes) (source : Bytes) (u : PlainSource) (e : Refusal) → IsSource names source after u → IsSourceFault names source e → ⊥
source-or-fault names after source u e h (IsSourceFault.of_tokens x f m) =
    tokens_or_fault names source h.tokens after x (lex_told x e m) h.headed.lexed.read h.headed.lexed.within f
source-or-fault names after source u e h (IsSourceFault.of_header {tokens = us} {after = last} l n) =
    no-header (header_of us) h.header n (ap header_of (sym (lexed-same names after last source h.tokens us h.headed.lexed l)) ∙ h.headed.is)
source-or-fault names after source u e h (IsSourceFault.behind_header {tokens = us} {after = last} {header = other} k f) =
    let same = headed-same names source after last h.tokens us h.header other h.headed k in
    let one : IsSaid (front h.tokens) other u = subst (λ (x : PlainHeader). IsSaid (front h.tokens) x u) same.one_header h.said in
    said-or-fault (front us) other u e (subst (λ (ts : List Token). IsSaid (front ts) other u) same.one_list one) f

pub source-faults-same : (names : List Bytes) (source : Bytes) (e f : Refusal) → IsSourceFault names source e → IsSourceFault names source f → e ≡ f
source-faults-same names source e f (IsSourceFault.of_tokens x h m) (IsSourceFault.of_tokens y k n) =
    told_one lex_refusal x y e f (faults_same names source x y (lex_told x e m) (lex_told y f n) h k) m n
source-faults-same names source e f (IsSourceFault.of_tokens x h m) (IsSourceFault.of_header {tokens = us} {after = last} l n) =
    absurd (tokens_or_fault names source us last x (lex_told x e m) l.read l.within h)
source-faults-same names source e f (IsSourceFault.of_tokens x h m) (IsSourceFault.behind_header {tokens = us} {after = last} k g) =
    absurd (tokens_or_fault names source us last x (lex_told x e m) k.lexed.read k.lexed.within h)
source-faults-same names source e f (IsSourceFault.of_header {tokens = ts} {after = after} l m) (IsSourceFault.of_tokens y k n) =
    absurd (tokens_or_fault names source ts after y (lex_told y f n) l.read l.within k)
source-faults-same names source e f (IsSourceFault.of_header {tokens = ts} {after = after} l m) (IsSourceFault.of_header {tokens = us} {after = last} k n) =
    ap (λ (vs : List Token). refusal.Header (front vs)) (lexed-same names after last source ts us l k)
source-faults-same names source e f (IsSourceFault.of_header {tokens = ts} {after = after} l m) (IsSourceFault.behind_header {tokens = us} {after = last} {header = other} k g) =
    absurd (no-header (header_of us) other (ap header_of (sym (lexed-same names after last source ts us l k.lexed)) ∙ m) k.is)
source-faults-same names source e f (IsSourceFault.behind_header {tokens = ts} {after = after} h g) (IsSourceFault.of_tokens y k n) =
    absurd (tokens_or_fault names source ts after y (lex_told y f n) h.lexed.read h.lexed.within k)
source-faults-same names source e f (IsSourceFault.behind_header {tokens = ts} {after = after} {header = header} h g) (IsSourceFault.of_header {tokens = us} {after = last} l n) =
    absurd (no-header (header_of ts) header (ap header_of (lexed-same names after last source ts us h.lexed l) ∙ n) h.is)
source-faults-same names source e f (IsSourceFault.behind_header {tokens = ts} {after = after} {header = header} h g) (IsSourceFault.behind_header {tokens = us} {after = last} {header = other} k i) =
    let same = headed-same names source after last ts us header other h k in
    let one : IsSaidFault (front ts) other e = subst (λ (x : PlainHeader). IsSaidFault (front ts) x e) same.one_header g in
    said-faults-same (front us) other e f (subst (λ (vs : List Token). IsSaidFault (front vs) other e) same.one_list one) i
