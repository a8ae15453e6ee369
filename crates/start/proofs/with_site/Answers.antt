-- `start::with_site` meets its contract.
use Rattle.start.proofs.Replies.{site-reply, site-none}
use mathlib.Core.Path.{◌∙◌}
use Rattle.start.proofs.with_site.Goals as goal

pub returns-then-has_site : goal.returns-then-has_site
returns-then-has_site c = c.with.ensures ∙ site-reply _ _ _ _ _ _ _ c.has_site.ensures c.if-has_site.true c.requires.owns_value c.site_reply.ensures c.declared.ensures

pub returns : goal.returns
returns c = site-none _ _ _ _ c.has_site.ensures c.if-has_site.false
