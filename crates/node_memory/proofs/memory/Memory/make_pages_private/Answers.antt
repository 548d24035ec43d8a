-- The pages of a range become private one after another, from the first on.
use Rattle.std.proofs.Common.{◌∙◌, arith, rules}
use Rattle.node_memory.proofs.Owned.{Owns-empty, PrivateUpTo-more, Owns-from_up_to, OwnsMore-from_up_to, same_private-from_up_to}
use Rattle.node_memory.proofs.memory.Memory.make_pages_private.Goals as goal

pub returns-then-len-eq0 : goal.returns-then-len-eq0
returns-then-len-eq0 g c = record {
  bytes = search rules;
  owned = Owns-empty _ _ _ c.if-len-eq0.true c.requires.within;
  more = search rules;
  same_private = search rules;
  refused = search rules;
}

pub make_page_private-requires : goal.make_page_private-requires
make_page_private-requires g c =
    let pages = c.loop-page.invariant.1.pages in
    omega (arith, c.requires.within)

pub loop-page-preserved : goal.loop-page-preserved
loop-page-preserved g c =
    let pages = c.loop-page.invariant.1.pages in (
      c.make_page_private.ensures.bytes
          ∙ c.loop-page.invariant.0,
      PrivateUpTo-more _ _ _ _ _ c.loop-page.invariant.1 (omega arith)
          (omega (arith, c.requires.within)) c.in_ok-make_page_private.ensures.ok,
    )

pub returns : goal.returns
returns g c = record {
  bytes = search rules;
  owned = Owns-from_up_to _ _ c.args.addr c.args.len c.loop-page.page c.loop-page.invariant.1 (omega arith) (omega arith) c.requires.within;
  more = OwnsMore-from_up_to _ _ c.args.addr c.args.len c.loop-page.page c.loop-page.invariant.1 (omega arith) (omega arith);
  same_private = same_private-from_up_to _ _ c.args.addr c.args.len c.loop-page.page c.loop-page.invariant.1 (omega arith) (omega arith);
  refused = search rules;
}
