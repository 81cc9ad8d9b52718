-- What is told of a name, and of a call.
use Rattle.std.proofs.Common.{ℕ, ◌≡◌, ◌≢◌, Bool, false, List, [], ◌∷◌, ◌++◌, length, map, sym, ap, ◌∙◌}
use Rattle.std.specs.Prelude.{nat_lt, if◌then◌else◌, OnOk, Result, codes}
use Rattle.std.proofs.lemmas.Bool.{eq-eqb, ne_eqb}
use Rattle.std.proofs.lemmas.List.{append-nil, length-map}
use Rattle.std.proofs.lemmas.Result.{on_ok_weaker}
use Rattle.fy_base.specs.Outside.{Bytes}
use Rattle.fy_types.specs.declared.paths.Paths.{Paths}
use Rattle.fy_types.specs.Paths.{PlainPaths}
use Rattle.fy_types.specs.Reading.{paths_in, plain_path, plain_paths}
use Rattle.fy_types.proofs.ReadLemmas.{plain_paths-at}
use Rattle.fy_phrase.specs.Tree.{place_of}
use Rattle.fy_show.specs.Entries.{Known}
use Rattle.fy_causes.specs.Occurrences.{Variable}
use Rattle.fy_causes.specs.Causes.{Cause}
use Rattle.fy_causes.specs.Hollow.{Explained}
use Rattle.fy_why.specs.Types.{count, paths_text}
use Rattle.fy_why.specs.Sentences.{part_of, place_text}
use Rattle.fy_why.specs.Origins.{beside_all, beside_part, binder_word, origin, prelude_names, taken, told_of}
use Rattle.fy_why.specs.Texts.{lines}
use Rattle.fy_why.proofs.TypeLemmas.{count-each}
use Rattle.fy_why.proofs.LineLemmas.{two-put}
use Rattle.fy_why.proofs.SentenceLemmas.{lines-append}

-- a name that isn't of the prelude
abbrev pub origin_words : Bytes → Variable → Bytes
origin_words text v = text ++ codes " is " ++ binder_word v.binder ++ codes ", from " ++ place_text (place_of v.binder) ++ codes "."

pub origin-told : (text : Bytes) (v : Variable) (G H : List Variable) (b : Bool) → H ≡ v ∷ G → b ≡ nat_lt (length G) prelude_names → b ≡ false →
    origin_words text v ∷ [] ≡ origin text H
origin-told text v G H b is fewer none =
    sym (ap (origin text) is ∙ ap (λ c. if c then [] else (origin_words text v ∷ [])) (sym fewer ∙ none))

-- a call whose procedure takes the argument by some of its paths
abbrev pub taken_words : Known → Bytes → PlainPaths → PlainPaths → Bytes → Bytes
taken_words k procedure P T argument =
    codes "In it " ++ procedure ++ codes " has " ++ paths_text k.names P ++ codes ", of which " ++ paths_text k.names T ++ codes " takes " ++ argument ++ codes "."

pub taken-told : (k : Known) (procedure : Bytes) (P T : PlainPaths) (argument : Bytes) → count T ≢ count P → taken_words k procedure P T argument ∷ [] ≡ taken k procedure P T argument
taken-told k procedure P T argument apart =
    sym (ap (λ c. if c then [] else (taken_words k procedure P T argument ∷ [])) (ne_eqb (count T) (count P) apart))

-- and by all of them
pub taken-none : (k : Known) (procedure : Bytes) (P T : PlainPaths) (argument : Bytes) → count T ≡ count P → [] ≡ taken k procedure P T argument
taken-none k procedure P T argument same =
    sym (ap (λ c. if c then [] else (taken_words k procedure P T argument ∷ [])) (eq-eqb (count T) (count P) same))

pub count-len : (l : Paths) → count (plain_paths l) ≡ length (paths_in l)
count-len l = ap count (plain_paths-at l) ∙ (count-each (map plain_path (paths_in l)) ∙ length-map (paths_in l) plain_path)

-- what is told of two parts
pub beside-put : {X E : Type 0} (r : Result X E) (V T t lead : Bytes) (k : Known) (names : Bool) (e : Explained) (i j : ℕ) (c : Cause) → t ≡ T ++ lines lead (beside_part k names (part_of e i)) →
    OnOk r (V ≡ t ++ lines lead (beside_part k names (part_of e j))) → told_of c ≡ i ∷ j ∷ [] → OnOk r (V ≡ T ++ lines lead (beside_all k names e (told_of c)))
beside-put r V T t lead k names e i j c p o told =
    let I = beside_part k names (part_of e i) in
    let J = beside_part k names (part_of e j) in
    on_ok_weaker r
    (λ (v : V ≡ t ++ lines lead J).
    two-put T (lines lead I) (lines lead J) t V p v
    ∙ ap (λ x. T ++ x) (sym (lines-append lead I J) ∙ (ap (λ y. lines lead (I ++ y)) (sym (append-nil J)) ∙ ap (λ is. lines lead (beside_all k names e is)) (sym told))))
    o
