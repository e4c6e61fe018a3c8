-- How a file is read, and how a command ends on what was read.
use Rattle.std.proofs.Common.{◌≡◌, ◌⊎◌, inl, inr, sym, ap, ◌∙◌, subst, Result, Ok, Err, ℕ, List}
use Rattle.kts_base.specs.declared.status.Status.{Status}
use Rattle.kts_base.specs.Writes.{Log}
use Rattle.kts_check.specs.Faults.{SpecFault, IsNoMemory as TypesLack}
use Rattle.kts_check.specs.Forms.{Parts, parts_of}
use Rattle.kts_syntax.specs.Faults.{FormFault, IsNoMemory as FormsLack}
use Rattle.kts_syntax.specs.Tops.{Ast, forms_of}
use Rattle.kts_text.specs.Faults.{TreeFault, IsNoMemory as TreesLack}
use Rattle.kts_text.specs.Forest.{Forest}
use Rattle.kts_text.specs.Reads.{trees_of}
use Rattle.kts_top.specs.declared.content_fault.ContentFault.TheVariants.{Trees, Form, Spec}
use Rattle.kts_top.specs.Contents.{IsNoMemory, with_parts, from_forms, from_trees, content_of}
use Rattle.kts_top.specs.Endings.{Ends, EndsOrLacks, ended, lacked, EndsUnless, as_owed, for_memory}
use Rattle.kts_top.specs.Lines.{Owed}
use Rattle.kts_top.specs.Owed.{with_content}

module _ (bytes : List ℕ) where
  -- the bytes of a file are at fault
  pub tree_fault : (fault : TreeFault) → TreesLack fault ⊎ (trees_of bytes ≡ Err fault) → IsNoMemory (Trees fault) ⊎ (content_of bytes ≡ Err (Trees fault))
  unfolding content_of
  tree_fault fault (inl lack) = inl (ap (λ (f : TreeFault). f.kind) lack)
  tree_fault fault (inr is) = inr (ap from_trees is)

  -- its trees are at fault
  pub form_fault : (trees : Forest) (fault : FormFault) → trees_of bytes ≡ Ok trees → FormsLack fault ⊎ (forms_of trees ≡ Err fault) → IsNoMemory (Form fault) ⊎ (content_of bytes ≡ Err (Form fault))
  unfolding content_of
  form_fault trees fault e (inl lack) = inl (ap (λ (f : FormFault). f.kind) lack)
  form_fault trees fault e (inr is) = inr (ap from_trees e ∙ ap from_forms is)

  -- the types of its forms are at fault
  pub type_fault : (trees : Forest) (ast : Ast) (fault : SpecFault) → trees_of bytes ≡ Ok trees → forms_of trees ≡ Ok ast → TypesLack fault ⊎ (parts_of ast ≡ Err fault) → IsNoMemory (Spec fault) ⊎ (content_of bytes ≡ Err (Spec fault))
  unfolding content_of
  type_fault trees ast fault e f (inl lack) = inl (ap (λ (g : SpecFault). g.kind) lack)
  type_fault trees ast fault e f (inr is) = inr (ap from_trees e ∙ ap from_forms f ∙ ap (with_parts ast) is)

  -- it is read
  pub content_read : (trees : Forest) (ast : Ast) (parts : Parts) → trees_of bytes ≡ Ok trees → forms_of trees ≡ Ok ast → parts_of ast ≡ Ok parts → content_of bytes ≡ Ok (record { ast = ast; parts = parts })
  unfolding content_of
  content_read trees ast parts e f p = ap from_trees e ∙ ap from_forms f ∙ ap (with_parts ast) p

module _ {A F : Type 0} {status : Status} {old new : Log} (refused : F → Owed) (next : A → Owed) (read : Result A F) where
  -- what is owed for the content of a file was done
  pub content_done : (content : A) → read ≡ Ok content → Ends status old new (next content) → EndsOrLacks status old new (with_content refused next read)
  content_done content e end = ended (subst (λ (r : Result A F). Ends status old new (with_content refused next r)) (sym e) end)

  -- the line of the fault was put, or that of refused memory
  pub fault_told : {Lacks : Type 0} (fault : F) → Lacks ⊎ (read ≡ Err fault) → EndsUnless status old new Lacks (refused fault) → EndsOrLacks status old new (with_content refused next read)
  fault_told fault (inl lack) (as_owed none end) = absurd (none lack)
  fault_told fault (inr e) (as_owed none end) = ended (subst (λ (r : Result A F). Ends status old new (with_content refused next r)) (sym e) end)
  fault_told fault cause (for_memory lack end) = lacked end
