-- Which release is above another, and the versions that `stable` and `latest` stand for.
use Rattle.std.specs.Prelude.{ℕ, List, Option, Some, None, Bool, true, false, ◌&&◌, not, is_some, position}
use Rattle.std.specs.List.{list_any}
use Rattle.std.specs.Str.{bytes_eq}
use Rattle.std.specs.Ordering.{nat_cmp, on, then_cmp, is_gt}
use Rattle.std.specs.Cmp.Lexicographic.{slice_cmp}
use Rattle.std.specs.declared.cmp.Ordering.{Ordering}
use Rattle.dh_versions.specs.Release.{Numbers, release_of}
use Rattle.dh_versions.specs.declared.version.Kind.{Kind}
use Rattle.dh_versions.specs.declared.version.Kind.TheVariants.{Branch, Tag}
use Rattle.dh_versions.specs.declared.version.Version.{Version}

-- three numbers in dictionary order
abbrev pub numbers_cmp : Numbers → Numbers → Ordering
numbers_cmp = then_cmp (then_cmp (on (λ n. n.0) nat_cmp) (on (λ n. n.1) nat_cmp)) (on (λ n. n.2) nat_cmp)

-- release numbers with the slug that decides a tie, by its bytes
abbrev pub Rank : Type 0
Rank = Numbers × List ℕ

abbrev pub rank_cmp : Rank → Rank → Ordering
rank_cmp = then_cmp (on (λ r. r.0) numbers_cmp) (on (λ r. r.1) (slice_cmp nat_cmp))

-- the rank of a release tag; other versions have none
abbrev pub ranked_as : Option Numbers → List ℕ → Option Rank
ranked_as None slug = None
ranked_as (Some n) slug = Some (n, slug)

abbrev pub rank_of : Version → Option Rank
rank_of v = ranked_as (release_of v.kind v.name) v.slug

abbrev pub is_release : Version → Bool
is_release v = is_some (rank_of v)

-- both have a rank, and the first is the greater
abbrev pub outranks : Option Rank → Option Rank → Bool
outranks (Some x) (Some y) = is_gt (rank_cmp x y)
outranks (Some x) None = false
outranks None o = false

-- both are release tags, and the first is above the second
abbrev pub is_above : Version → Version → Bool
is_above a b = outranks (rank_of a) (rank_of b)

-- the place of the first release that no member is above
abbrev pub stable_of : List Version → Option ℕ
stable_of versions = position (λ v. is_release v && not (list_any (λ w. is_above w v) versions)) versions

abbrev pub is_branch : Kind → Bool
is_branch Branch = true
is_branch Tag = false

-- a member is a tag, whatever its name
abbrev pub has_tag : List Version → Bool
has_tag versions = list_any (λ v. not (is_branch v.kind)) versions

-- the place of the first branch whose name is the default branch
abbrev pub latest_of : List Version → List ℕ → Option ℕ
latest_of versions default = position (λ v. is_branch v.kind && bytes_eq v.name default) versions
