-- The words of the program and of a script's line, as `clap` sees them.
use Rattle.std.specs.Prelude.{List, [], ◌∷◌, ◌++◌, codes, map}
use Rattle.clap.specs.Walk.{Text}
use Rattle.clap.specs.Simple.{App, new_app, with_rule}
use Rattle.dh_word_tables.specs.Apps.{option_rule, required_option_rule, flag_rule, form, program_of}
use Rattle.dh_word_tables.specs.Apps.{with_apps}

abbrev pub new_project_app : App
new_project_app = form (codes "new-project")
    (codes "host" ∷ codes "lang" ∷ codes "branch" ∷ codes "privacy" ∷ codes "wkey" ∷ [])

abbrev pub add_lang_app : App
add_lang_app = form (codes "add-lang") (codes "host" ∷ codes "lang" ∷ [])

abbrev pub push_app : App
push_app = form (codes "push")
    (codes "host" ∷ codes "wkey" ∷ codes "key" ∷ codes "kind" ∷ codes "ref" ∷ [])

abbrev pub upload_app : App
upload_app = with_rule (form (codes "upload")
    (codes "host" ∷ codes "wkey" ∷ codes "key" ∷ codes "slug" ∷ codes "lang" ∷ codes "path"
    ∷ codes "type" ∷ codes "text" ∷ []))
    (flag_rule (codes "replace"))

abbrev pub project_apps : List App
project_apps = new_project_app ∷ add_lang_app ∷ push_app ∷ upload_app ∷ []

-- `NAME HOST SLUG`: a command on one version
abbrev pub version_app : Text → App
version_app name = form name (codes "host" ∷ codes "slug" ∷ [])

abbrev pub version_apps : List App
version_apps =
    version_app (codes "activate")
    ∷ version_app (codes "deactivate")
    ∷ version_app (codes "hide")
    ∷ version_app (codes "unhide")
    ∷ version_app (codes "publish")
    ∷ version_app (codes "make-private")
    ∷ version_app (codes "gone")
    ∷ version_app (codes "set-default")
    ∷ []

-- `NAME HOST PASS`: a command on one pass
abbrev pub pass_app : Text → App
pass_app name = form name (codes "host" ∷ codes "pass" ∷ [])

abbrev pub add_pass_app : App
add_pass_app = with_rule (pass_app (codes "add-pass")) (option_rule (codes "until"))

-- `NAME HOST PASS SLUG`: a command on one grant
abbrev pub grant_app : Text → App
grant_app name = form name (codes "host" ∷ codes "pass" ∷ codes "slug" ∷ [])

abbrev pub pass_apps : List App
pass_apps =
    add_pass_app
    ∷ pass_app (codes "drop-pass")
    ∷ grant_app (codes "grant")
    ∷ grant_app (codes "revoke")
    ∷ []

abbrev pub add_redirect_app : App
add_redirect_app = with_rule (form (codes "add-redirect")
    (codes "host" ∷ codes "place" ∷ codes "redirect-kind" ∷ codes "status" ∷ codes "from"
    ∷ codes "to" ∷ []))
    (flag_rule (codes "force"))

abbrev pub drop_redirect_app : App
drop_redirect_app = form (codes "drop-redirect") (codes "host" ∷ codes "place" ∷ [])

abbrev pub redirect_apps : List App
redirect_apps = add_redirect_app ∷ drop_redirect_app ∷ []

abbrev pub add_rule_app : App
add_rule_app = form (codes "add-rule")
    (codes "host" ∷ codes "place" ∷ codes "kind" ∷ codes "pattern" ∷ codes "action" ∷ [])

abbrev pub drop_rule_app : App
drop_rule_app = form (codes "drop-rule") (codes "host" ∷ codes "place" ∷ [])

abbrev pub rule_apps : List App
rule_apps = add_rule_app ∷ drop_rule_app ∷ []

abbrev pub get_app : App
get_app = with_rule (with_rule (form (codes "get") (codes "host" ∷ codes "target" ∷ []))
    (option_rule (codes "pass"))) (option_rule (codes "now"))

abbrev pub import_app : App
import_app = form (codes "import") (codes "host" ∷ codes "list" ∷ [])

-- `NAME HOST`: a word that lists what a project has
abbrev pub list_app : Text → App
list_app name = form name (codes "host" ∷ [])

-- `list-pages HOST SLUG LANG`
abbrev pub list_pages_app : App
list_pages_app = form (codes "list-pages") (codes "host" ∷ codes "slug" ∷ codes "lang" ∷ [])

-- `list-seen HOST [--pass PASS] [--now SECONDS]`
abbrev pub list_seen_app : App
list_seen_app = with_rule (with_rule (form (codes "list-seen") (codes "host" ∷ []))
    (option_rule (codes "pass"))) (option_rule (codes "now"))

abbrev pub list_apps : List App
list_apps =
    form (codes "list-projects") []
    ∷ list_app (codes "list-langs")
    ∷ list_app (codes "list-versions")
    ∷ list_app (codes "list-defaults")
    ∷ list_app (codes "list-rules")
    ∷ list_app (codes "list-redirects")
    ∷ list_app (codes "list-passes")
    ∷ list_pages_app
    ∷ list_seen_app
    ∷ []

abbrev pub script_app : App
script_app = form (codes "script") []

abbrev pub answer_app : App
answer_app = form (codes "answer") []

-- the forms that may name the file of their records
abbrev pub store_apps : List App
store_apps =
    project_apps ++ version_apps ++ pass_apps ++ redirect_apps ++ rule_apps
    ++ (get_app ∷ import_app ∷ []) ++ list_apps ++ (script_app ∷ answer_app ∷ [])

-- the form with `--store FILE` added
abbrev pub with_store : App → App
with_store app = with_rule app (option_rule (codes "store"))

abbrev pub init_app : App
init_app = form (codes "init") (codes "file" ∷ [])

abbrev pub migrate_app : App
migrate_app = form (codes "migrate") (codes "file" ∷ [])

abbrev pub serve_app : App
serve_app =
    with_rule (with_rule (with_rule (with_rule (with_rule (form (codes "serve") [])
    (required_option_rule (codes "store"))) (required_option_rule (codes "count")))
    (option_rule (codes "port"))) (option_rule (codes "wait"))) (flag_rule (codes "log"))

-- the program without its subcommands
abbrev pub bare_app : App
bare_app = program_of (new_app (codes "docs_host"))

-- the program: the lines of scripts, and what it does with a file or with its input
abbrev pub docs_app : App
docs_app = with_apps bare_app (map with_store store_apps ++ (init_app ∷ migrate_app ∷ serve_app ∷ []))
