pub mod Finite
pub mod TokenLaws
pub mod OperationLaws
pub mod TypeLaws
pub mod StackLaws
pub mod Arrays
