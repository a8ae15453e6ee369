-- `propagate::pass` meets its contract: how the target was met says which of the three the definition puts.
use Rattle.propagate.proofs.Meets.{open-leave, same-put, unequal-put, entry-put}
use Rattle.propagate.proofs.pass.Goals as goal

pub leave-requires : goal.leave-requires
leave-requires c =
    let a = c.args in
    open-leave a.ws.now a.t a.ch a.v a.l a.q a.to a.narrow c.requires c.row_at.result c.row_at.ensures

pub returns-in-Same : goal.returns-in-Same
returns-in-Same c =
    let a = c.args in
    λ s x h. same-put s a.ws.now a.t a.ch a.v a.l a.q x a.to h c.row_at.result c.row_at.ensures a.narrow c.leave.new.ws c.leave.result c.leave.ensures c.in-Same.is

pub returns-in-Changed : goal.returns-in-Changed
returns-in-Changed c =
    let a = c.args in
    λ s x h. entry-put s a.ws.now a.t a.ch a.v a.l a.q x a.to h c.row_at.result c.row_at.ensures a.narrow c.leave.new.ws c.leave.result c.leave.ensures c.in-Changed.is c.enqueue.new.ws c.enqueue.result c.enqueue.ensures

pub returns-in-Unequal : goal.returns-in-Unequal
returns-in-Unequal c =
    let a = c.args in
    λ s x h. unequal-put s a.ws.now a.t a.ch a.v a.l a.q x a.to h c.row_at.result c.row_at.ensures a.narrow c.leave.new.ws c.leave.result c.leave.ensures c.in-Unequal.is
