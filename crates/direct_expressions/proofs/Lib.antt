pub mod StackLaws
pub mod ExpressionLaws
