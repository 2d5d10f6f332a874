-- Equal keys have the same texts.
use Rattle.std.proofs.Common.{◌≡◌, Bool, true, false, ◌&&◌, refl, sym, true≢false}
use Rattle.std.specs.Prelude.{String, string_bytes}
use Rattle.std.specs.String.{string_eq}
use Rattle.std.proofs.lemmas.Slice.Eq.{bytes_eq-Decides}
use Rattle.dh_page_cache.specs.declared.key.PageKey.{PageKey}
use Rattle.dh_page_cache.specs.Keys.{texts_of}

both : (a b : Bool) → (a && b) ≡ true → (a ≡ true) × (b ≡ true)
both true b e = (refl, e)
both false b e = absurd (true≢false (sym e))

same_text : {Z : Type 0} (a b : String Z) → string_eq a b ≡ true → string_bytes a ≡ string_bytes b
same_text a b e = (bytes_eq-Decides (string_bytes a) (string_bytes b)).0 e

-- as `==` compares keys, part by part
abbrev pub key_eq : PageKey → PageKey → Bool
key_eq a b = string_eq a.host b.host && (string_eq a.slug b.slug && (string_eq a.lang b.lang && string_eq a.path b.path))

pub same_texts : (a b : PageKey) → key_eq a b ≡ true → texts_of a ≡ texts_of b
same_texts a b e =
    let host = both (string_eq a.host b.host) _ e in
    let slug = both (string_eq a.slug b.slug) _ host.1 in
    let rest = both (string_eq a.lang b.lang) _ slug.1 in
    λ i. record {
      host = same_text a.host b.host host.0 i;
      slug = same_text a.slug b.slug slug.0 i;
      lang = same_text a.lang b.lang rest.0 i;
      path = same_text a.path b.path rest.1 i;
    }
