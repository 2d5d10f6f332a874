-- What a key stands for.
use Rattle.std.specs.Prelude.{ℕ, List, string_bytes}
use Rattle.dh_page_cache.specs.declared.key.PageKey.{PageKey}

-- the host, the version, the language and the path of a page
pub record KeyTexts : Type 0 where
  pub host : List ℕ
  pub slug : List ℕ
  pub lang : List ℕ
  pub path : List ℕ

abbrev pub key_texts : List ℕ → List ℕ → List ℕ → List ℕ → KeyTexts
key_texts host slug lang path =
    record { host = host; slug = slug; lang = lang; path = path }

abbrev pub texts_of : PageKey → KeyTexts
texts_of key =
    key_texts (string_bytes key.host) (string_bytes key.slug) (string_bytes key.lang)
    (string_bytes key.path)
