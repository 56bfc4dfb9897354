mod Words
pub mod BytesLaws
pub mod CrcLaws
pub mod ResidueLaws
pub mod FrameLaws
pub mod RequestLaws
pub mod ReplyLaws
pub mod FieldLaws
pub mod MaskLaws
pub mod MirrorLaws
pub mod KeyLaws
