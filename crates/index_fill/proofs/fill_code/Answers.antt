use Rattle.index_fill.specs.model.Model.{code_work, code_words, site_words}
use borrow.Author.Tests.{ne_eqb}
use mathlib.Core.Path.{refl}
use Rattle.index_fill.proofs.fill_code.Goals as goal

pub fill_chunk-requires : goal.fill_chunk-requires
fill_chunk-requires c = c.requires.chunk c.in-2.is

pub fill_instr-requires : goal.fill_instr-requires
fill_instr-requires c = c.requires.instr c.in-3.is

pub returns-in-2 : goal.returns-in-2
unfolding code_work code_words site_words
returns-in-2 c = rw c.in-2.is c.fill_chunk.ensures

pub returns-in-3 : goal.returns-in-3
unfolding code_work code_words site_words
returns-in-3 c = rw c.in-3.is c.fill_instr.ensures

pub returns-in-4 : goal.returns-in-4
unfolding code_work code_words site_words
returns-in-4 c = rw c.in-4.is (refl, refl)

pub returns-in_default : goal.returns-in_default
unfolding code_work code_words site_words
returns-in_default c = rw (ne_eqb _ _ c.in_default.in_default-own.rest.0.0.1, ne_eqb _ _ c.in_default.in_default-own.rest.0.1, ne_eqb _ _ c.in_default.in_default-own.rest.1) (refl, refl)
