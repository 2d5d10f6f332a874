-- What `semver` says of a name after at most one leading `v`.
use Rattle.std.proofs.Common.{◌≡◌, ℕ, List, [], ◌∷◌, cond, refl, sym, ◌∙◌, ap, subst, Bool, true, false, length, if◌then◌else◌, ◌==◌, arith, IsTrue, ◌↔◌, MatchOption, Some, None, is_some, Result, Ok, Err}
use Rattle.std.proofs.lemmas.Bool.{false≢true}
use Rattle.std.proofs.lemmas.Bool.Decides.{nat_tests}
use Rattle.std.specs.Result.{result_ok}
use Rattle.semver.specs.Parse.{Parts, version_parts}
use Rattle.semver.specs.Identifiers.{parts_text}
use Rattle.semver.specs.declared.error.Error.{Error}
use Rattle.semver.proofs.Grammar.{version_parts-sound, version_parts-complete}
use Rattle.dh_versions.specs.Release.{Numbers, without_v, is_semver_name, IsSemVer, IsSemVerOf, IsReleaseOf, released, release_of}
use Rattle.dh_versions.specs.declared.version.Kind.{Kind}
use Rattle.dh_versions.specs.declared.version.Kind.TheVariants.{Branch, Tag}

-- a name that does not begin with `v` stays as it is
pub without_v_none : (name : List ℕ) → ((rest : List ℕ) → name ≡ 118 ∷ rest → ⊥) → name ≡ without_v name
without_v_none [] h = refl
without_v_none (b ∷ rest) h = by_test (b == 118) refl
  where
    by_test : (t : Bool) → (b == 118) ≡ t → b ∷ rest ≡ cond (b == 118) rest (b ∷ rest)
    by_test true e = let same : b ≡ 118 = grind (arith, nat_tests) in absurd (h rest (ap (λ x. x ∷ rest) same))
    by_test false e = ap (λ t. cond t rest (b ∷ rest)) (sym e)

-- a text that `semver` refuses is that of no parts
pub not_read : (name : List ℕ) (x : Error) → version_parts (without_v name) ≡ Err x → (p : Parts) → IsSemVerOf name p → ⊥
not_read name x e p h =
    let reads : version_parts (parts_text p) ≡ Ok p = version_parts-complete p h.1 in
    let same : version_parts (without_v name) ≡ Ok p = ap version_parts (sym h.0) ∙ reads in
    absurd cc

-- the test of a name is true exactly of SemVer names
pub is_semver_name-law : (name : List ℕ) → IsTrue (is_semver_name name) ↔ IsSemVer name
is_semver_name-law name = by_read (version_parts (without_v name)) refl
  where
    by_read : (r : Result Parts Error) → version_parts (without_v name) ≡ r → IsTrue (is_some (result_ok r)) ↔ IsSemVer name
    by_read (Ok p) e = (λ _. (p, version_parts-sound (without_v name) p e), λ _. refl)
    by_read (Err x) e = (λ t. absurd (false≢true t), λ h. absurd (not_read name x e h.0 h.1))

-- a version with a pre-release is none without
pre_differs : (x : Result Parts Error) (major minor patch a b' d byte : ℕ) (rest build others : List ℕ) →
    x ≡ Ok (major, minor, patch, byte ∷ rest, build) → x ≡ Ok (a, b', d, [], others) → ⊥
pre_differs x major minor patch a b' d byte rest build others e f =
    let pres : byte ∷ rest ≡ [] = sym (ap pre_in e) ∙ ap pre_in f in
    absurd cc
  where
    pre_in : Result Parts Error → List ℕ
    pre_in (Ok p) = p.3
    pre_in (Err e) = []

-- the numbers are those of a release, and none are found only where the name is no release
pub release_of-law : (kind : Kind) (name : List ℕ) → MatchOption (release_of kind name) ((n : Numbers) → IsReleaseOf kind name n → ⊥) (IsReleaseOf kind name)
release_of-law Branch name = λ n h. let wrong : Branch ≡ Tag = h.0 in absurd cc
release_of-law Tag name = by_read (version_parts (without_v name)) refl
  where
    by_pre : (major minor patch : ℕ) (pre build : List ℕ) → version_parts (without_v name) ≡ Ok (major, minor, patch, pre, build) →
        MatchOption (released (Some (major, minor, patch, pre, build))) ((n : Numbers) → IsReleaseOf Tag name n → ⊥) (IsReleaseOf Tag name)
    by_pre major minor patch [] build e = (refl, (build, version_parts-sound (without_v name) (major, minor, patch, [], build) e))
    by_pre major minor patch (b ∷ rest) build e =
        let test : (length (b ∷ rest) == 0) ≡ false = grind (arith, nat_tests) in
        subst (λ (t : Bool). MatchOption (if t then Some (major, minor, patch) else None) ((n : Numbers) → IsReleaseOf Tag name n → ⊥) (IsReleaseOf Tag name)) (sym test) (λ n h.
        let reads : version_parts (parts_text (n.0, n.1, n.2, [], h.1.0)) ≡ Ok (n.0, n.1, n.2, [], h.1.0) = version_parts-complete (n.0, n.1, n.2, [], h.1.0) h.1.1.1 in
        let same : version_parts (without_v name) ≡ Ok (n.0, n.1, n.2, [], h.1.0) = ap version_parts (sym h.1.1.0) ∙ reads in
        pre_differs _ major minor patch n.0 n.1 n.2 b rest build h.1.0 e same)

    by_read : (r : Result Parts Error) → version_parts (without_v name) ≡ r →
        MatchOption (released (result_ok r)) ((n : Numbers) → IsReleaseOf Tag name n → ⊥) (IsReleaseOf Tag name)
    by_read (Ok p) e = by_pre p.0 p.1 p.2 p.3 p.4 e
    by_read (Err x) e = λ n h. not_read name x e (n.0, n.1, n.2, [], h.1.0) h.1.1
