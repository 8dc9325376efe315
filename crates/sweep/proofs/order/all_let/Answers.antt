-- What `all` answers is the test of all links.
use Rattle.std.proofs.Common.{rules, ◌≡◌, ◌∙◌, ap, List, ℕ}
use Rattle.std.specs.List.{list_all}
use Rattle.std.proofs.lemmas.Iterator.{YieldsList-from_slice}
use Rattle.std.proofs.lemmas.Iterator.Search.{all_from_yields_List}
use Rattle.exact.specs.Sided.{all_in}
use Rattle.sweep.specs.Arrays.{sides_in, lets_by}
use Rattle.sweep.proofs.Laws.{all_of}
use Rattle.sweep.proofs.order.all_let.Goals as goal

pub returns : goal.returns
returns c =
    let a = c.args in
    let xs = c.links_of.result.now in
    let t = lets_by a.put (sides_in a.swept.now) a.flags.now a.i in
    let e : c.all.result ≡ list_all t xs = all_from_yields_List t _ _ _ c.all.ensures.ran (YieldsList-from_slice xs cc) (λ x b q k. search rules) in
    e ∙ all_of t xs ∙ ap (λ (ls : List ℕ). all_in t ls) c.links_of.ensures
