use Rattle.std.proofs.Common.{ℕ, Option, arith, ap, sym, ◌≡◌, ◌≤◌, ◌∙◌, map}
use Rattle.std.specs.Option.{option_map}
use Rattle.fy_syntax.specs.Reading.{def_of, defs_from, decl_tree}
use Rattle.fy_expand.specs.declared.frame.Standing.{Standing}
use Rattle.fy_expand.specs.Scope.{Scope, with_defs, with_members}
use Rattle.fy_expand.specs.Frames.{scope_of, is_member}
use Rattle.fy_expand.proofs.ScopeLemmas.{scope_of-Defs, scope_of-Members, scope_of-Hidden, depth_under-defs_from, with_defs-older, with_defs-kind, with_members-older, with_members-kind, behind_all-depth, behind_all-phrases}
use Rattle.fy_expand.proofs.frame.+find.Goals as goal

pub returns-in-Defs-clause-exact : goal.returns-in-Defs-clause-exact
returns-in-Defs-clause-exact t c = λ few.
    let here = ap (λ f. (scope_of f).depth) c.in-Defs.is ∙ ap (λ (s : Scope). s.depth) (scope_of-Defs c.in-Defs.defs c.in-Defs.outer) in
    let all = depth_under-defs_from (scope_of c.in-Defs.outer.now).depth c.in-Defs.defs.now in
    let outer_few : (scope_of c.in-Defs.outer.now).depth ≤ 1024 = omega arith in
    let depth : c.depth_in-in-Defs.result ≡ (scope_of c.in-Defs.outer.now).depth = omega (arith, c.depth_in-in-Defs.ensures) in
    c.find_def.ensures.exact (omega (arith, depth))
    ∙ ap (λ o. with_defs c.depth_in-in-Defs.result (defs_from (map def_of c.in-Defs.defs.now)) (λ _. o) c.args.name) (c.find-in-Defs.ensures.exact outer_few)
    ∙ ap (λ d. with_defs d (defs_from (map def_of c.in-Defs.defs.now)) (λ _. (scope_of c.in-Defs.outer.now).phrases c.args.name) c.args.name) depth
    ∙ sym (with_defs-older (scope_of c.in-Defs.outer.now).depth (defs_from (map def_of c.in-Defs.defs.now)) (scope_of c.in-Defs.outer.now).phrases c.args.name)
    ∙ sym (ap (λ f. (scope_of f).phrases c.args.name) c.in-Defs.is ∙ ap (λ (s : Scope). s.phrases c.args.name) (scope_of-Defs c.in-Defs.defs c.in-Defs.outer))

pub returns-in-Defs-clause-kind : goal.returns-in-Defs-clause-kind
returns-in-Defs-clause-kind t c =
    c.find_def.ensures.kind
    ∙ with_defs-kind 0 (scope_of c.in-Defs.outer.now).depth (defs_from (map def_of c.in-Defs.defs.now)) (λ _. c.find-in-Defs.result) (scope_of c.in-Defs.outer.now).phrases c.args.name c.find-in-Defs.ensures.kind
    ∙ sym (ap (λ f. option_map is_member ((scope_of f).phrases c.args.name)) c.in-Defs.is ∙ ap (λ (s : Scope). option_map is_member (s.phrases c.args.name)) (scope_of-Defs c.in-Defs.defs c.in-Defs.outer))

pub returns-in-Members-clause-exact : goal.returns-in-Members-clause-exact
returns-in-Members-clause-exact t c = λ few.
    let here = ap (λ f. (scope_of f).depth) c.in-Members.is ∙ ap (λ (s : Scope). s.depth) (scope_of-Members c.in-Members.decls c.in-Members.outer) in
    let outer_few : (scope_of c.in-Members.outer.now).depth ≤ 1024 = omega arith in
    let depth : c.depth_in-in-Members.result ≡ (scope_of c.in-Members.outer.now).depth = omega (arith, c.depth_in-in-Members.ensures) in
    c.find_member.ensures
    ∙ ap (λ o. with_members c.depth_in-in-Members.result (map decl_tree c.in-Members.decls.now) (λ _. o) c.args.name) (c.find-in-Members.ensures.exact outer_few)
    ∙ ap (λ d. with_members d (map decl_tree c.in-Members.decls.now) (λ _. (scope_of c.in-Members.outer.now).phrases c.args.name) c.args.name) depth
    ∙ sym (with_members-older (scope_of c.in-Members.outer.now).depth (map decl_tree c.in-Members.decls.now) (scope_of c.in-Members.outer.now).phrases c.args.name)
    ∙ sym (ap (λ f. (scope_of f).phrases c.args.name) c.in-Members.is ∙ ap (λ (s : Scope). s.phrases c.args.name) (scope_of-Members c.in-Members.decls c.in-Members.outer))

pub returns-in-Members-clause-kind : goal.returns-in-Members-clause-kind
returns-in-Members-clause-kind t c =
    ap (option_map is_member) c.find_member.ensures
    ∙ with_members-kind c.depth_in-in-Members.result (scope_of c.in-Members.outer.now).depth (map decl_tree c.in-Members.decls.now) (λ _. c.find-in-Members.result) (scope_of c.in-Members.outer.now).phrases c.args.name c.find-in-Members.ensures.kind
    ∙ sym (ap (λ f. option_map is_member ((scope_of f).phrases c.args.name)) c.in-Members.is ∙ ap (λ (s : Scope). option_map is_member (s.phrases c.args.name)) (scope_of-Members c.in-Members.decls c.in-Members.outer))

pub returns-in-Hidden-clause-exact : goal.returns-in-Hidden-clause-exact
returns-in-Hidden-clause-exact t c = λ few.
    let here = ap (λ f. (scope_of f).depth) c.in-Hidden.is ∙ ap (λ (s : Scope). s.depth) (scope_of-Hidden c.in-Hidden.count c.in-Hidden.outer) in
    let all = behind_all-depth c.in-Hidden.count (scope_of c.in-Hidden.outer.now) in
    c.find-in-Hidden.ensures.exact (omega (arith, here, all))
    ∙ sym (ap (λ (f : _). f c.args.name) (ap (λ f. (scope_of f).phrases) c.in-Hidden.is ∙ ap (λ (s : Scope). s.phrases) (scope_of-Hidden c.in-Hidden.count c.in-Hidden.outer) ∙ behind_all-phrases c.in-Hidden.count (scope_of c.in-Hidden.outer.now)))

pub returns-in-Hidden-clause-kind : goal.returns-in-Hidden-clause-kind
returns-in-Hidden-clause-kind t c =
    c.find-in-Hidden.ensures.kind
    ∙ sym (ap (λ (f : ℕ → Option Standing). option_map is_member (f c.args.name)) (ap (λ f. (scope_of f).phrases) c.in-Hidden.is ∙ ap (λ (s : Scope). s.phrases) (scope_of-Hidden c.in-Hidden.count c.in-Hidden.outer) ∙ behind_all-phrases c.in-Hidden.count (scope_of c.in-Hidden.outer.now)))
