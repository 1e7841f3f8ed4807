pub mod TopAtoms
