-- The lists of the records, with no derived ones and no answers to retry keys.
use Rattle.std.specs.Prelude.{[]}
use Rattle.dh_records.specs.Lists.{Lists}
use Rattle.dh_constraints.specs.declared.records.Records.{Records}

abbrev pub lists_in : Records → Lists
lists_in r = record {
  projects = r.projects.items;
  langs = r.langs.items;
  versions = r.versions.items;
  pages = r.pages.items;
  used = [];
  picks = r.picks.items;
  passes = r.passes.items;
  held = r.held.items;
  rules = r.rules.items;
  redirects = r.redirects.items;
  aliases = [];
  routes = [];
}
